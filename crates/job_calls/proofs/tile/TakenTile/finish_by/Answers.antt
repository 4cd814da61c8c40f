use Rattle.std.proofs.Common.{◌≡◌, ◌++◌, string_bytes, refl, ◌∙◌, arith}
use Rattle.std.proofs.lemmas.Grind.{common_steps}
use Rattle.std.proofs.lemmas.Result.{err_from_is_err_and}
use Rattle.job_calls.proofs.Ending.{left_off, printed}
use Rattle.job_calls.proofs.tile.TakenTile.finish_by.Goals as goal

pub returns-in_err-bench : goal.returns-in_err-bench
returns-in_err-bench g c =
    let ending = g.V.View.ending in
    let t = c.args.self.now in
    let p = err_from_is_err_and c.from_residual-in_err-bench.result c.from_residual-in_err-bench.ensures.1 in
    rw (p.1, p.2) (left_off ending t.cut.records.now t.cut.left t.head t.bytes.picture.items c.filter.new.picture (string_bytes c.filter.new.text) c.in_err-bench.field-0.0 (c.in_err-bench.ensures ending))

pub returns : goal.returns
returns g c =
    let ending = g.V.View.ending in
    let t = c.args.self.now in
    let b = c.in_ok-bench.bench in
    let picture = c.filter.new.picture in
    let one = string_bytes c.filter.new.text in
    let before : c.deref-2.result.now ≡ t.bytes.picture.items = c.deref-2.ensures.value in
    let filtered : c.deref-3.result.now ≡ picture = grind (arith, common_steps) in
    let line : string_bytes c.push.new.text ≡ one ++ ending t.head t.bytes.picture.items picture b.book.levels b.book.count =
    c.in_ok-push.ensures ∙ rw (before, filtered, c.levels-levels.ensures, c.strike.ensures, c.finish.ensures.book) refl
    in
    printed ending t.cut.records.now t.cut.left t.head t.bytes.picture.items b picture one _ (c.in_ok-bench.ensures ending) line
