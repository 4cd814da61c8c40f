-- What sound jobs print. Assumes nothing.
use Rattle.std.specs.Prelude.{◌≡◌, ℕ, cond, List, ◌++◌, length, ◌==◌}
use Rattle.records.specs.Jobs.{Job, job_bytes, Sound}
use Rattle.lines.specs.Lines.{rows_text}
use Rattle.job.specs.Lines.{empty_note, count_text}
use Rattle.job.specs.Texts.{job_text}

-- what a sound job prints
abbrev pub job_lines : Job → List ℕ
job_lines j =
    cond (length j.calls == 0) (rows_text j.head.width j.head.height j.grey ++ empty_note) (count_text (length j.calls))

-- every sound job, written out, prints its lines
abbrev pub JobsPrint : Type 0
JobsPrint = (j : Job) → Sound j → job_text (job_bytes j) ≡ job_lines j
