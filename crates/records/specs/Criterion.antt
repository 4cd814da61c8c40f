-- What each of the three criteria on bytes answers. Assumes nothing.
use Rattle.std.specs.Prelude.{ℕ}
use Rattle.criteria.specs.Criteria.{Judgement}
use Rattle.criteria.specs.Bytes.{by_step, by_tone, by_turn}
use Rattle.records.specs.declared.criterion.ByteCriterion.{ByteCriterion}
use Rattle.records.specs.declared.criterion.ByteCriterion.TheVariants.{Step, Tone, Turn}

abbrev pub judgement_of : ByteCriterion → Judgement ℕ
judgement_of (Step c) = by_step c.limit
judgement_of (Tone c) = by_tone c.limit
judgement_of (Turn c) = by_turn c.limit
