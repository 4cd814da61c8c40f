use Rattle.std.proofs.Common.{◌≡◌, ap, ◌∙◌, w8, to_z, of_z, rules}
use Rattle.std.proofs.lemmas.Int.{to_z-of_z}
use Rattle.maps.specs.Checks.{first_fault}
use Rattle.morphology.specs.Levels.{touched, reached}
use Rattle.bench.specs.Settings.{calling}
use Rattle.bench.specs.Checks.{level_checks}
use Rattle.bench.proofs.Passing.{the_value}
use Rattle.bench.proofs.Reaching.{stays_inside}
use Rattle.bench.proofs.book.Book.advance.Goals as goal

pub invariant_of-self : goal.invariant_of-self
invariant_of-self c =
    let b = c.args.self.now in
    let t = c.in_ok-level.level in
    let e = c.in_ok-level.ensures in
    let level : to_z w8 (of_z w8 t) ≡ t = to_z-of_z w8 t (search rules) in
    record { inside = rw (c.reach-self.ensures, level) (stays_inside c.args.operation t b.levels b.inside e.low e.high) }

pub returns-clause-levels : goal.returns-clause-levels
returns-clause-levels c =
    let o = c.args.operation in
    let p = c.args.size in
    let b = c.args.self.now in
    let t = c.in_ok-level.level in
    let found = first_fault (level_checks (calling o p) b.levels.present b.count) in
    let level = to_z-of_z w8 t (search rules) ∙ the_value found (touched o p b.levels.present) c.in_ok-level.ensures.answer in
    c.reach-self.ensures ∙ ap (λ z. reached o z b.levels) level
