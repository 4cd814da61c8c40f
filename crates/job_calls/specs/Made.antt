-- The calls of a job, made on the bench. Assumes nothing.
use Rattle.std.specs.Prelude.{◌≡◌, ℕ, List, map}
use Rattle.scales.specs.Grey as scales
use Rattle.criteria.specs.Criteria.{Judgement}
use Rattle.maps.specs.declared.map.Map.{Map}
use Rattle.maps.specs.Windows.{window, window_of}
use Rattle.morphology.specs.Calls.{Call}
use Rattle.bench.specs.declared.bench.Bench.{Bench}
use Rattle.bench.specs.Settings.{Setting, setting, Standing, standing, Asked}
use Rattle.bench.specs.Calls.{Answer, Run}
use Rattle.bench.specs.Laws.{Lawful, Seated}
use Rattle.records.specs.Reading.{judged}
use Rattle.records.specs.Jobs.{Job}

-- what a call of a job is asked: the job's own scratch has 4,096 entries each
abbrev pub asked : Call → Asked
asked c = record { call = c; room = record { marks = 4096; queue = 4096; spare = 4096 } }

-- a setting for grey pictures
abbrev pub grey_setting : Judgement ℕ → Map ℕ → Setting ℕ ℕ
grey_setting judgement m = setting scales.grey judgement m

-- The calls of the job are made, in order, on its seated picture: these are the answers, and this is left. The law over lists of calls holds of them.
pub record Made (j : Job) (answers : List Answer) (after : Standing ℕ) : Type 0 where
  pub on : Map ℕ
  pub shows : window_of on ≡ window j.map j.head.width j.head.height j.head.joining
  pub bench : Bench
  pub seated : Seated (grey_setting (judged j.head) on) j.grey bench
  pub ran : Run (grey_setting (judged j.head) on) (map asked j.calls) answers (standing bench j.grey) after
  pub lawful : Lawful (grey_setting (judged j.head) on) j.grey (map asked j.calls) answers after
