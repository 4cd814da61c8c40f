use Rattle.std.proofs.Common.{◌≡◌, ◌+◌, ◌*◌, ◌≤◌, length}
use Rattle.std.specs.Iterator.Adapters.{zip_first, zip_second}
use Rattle.std.specs.Slice.Iter.{iter_rest}
use Rattle.bench.specs.Residues.{gap_sum}
use Rattle.bench.proofs.gaps.sum_gaps.Given as goal

abbrev pub invariant-loop-a : goal.invariant-loop-a
invariant-loop-a g l =
    let xs = iter_rest (zip_first l.a-iterator) in
    let ys = iter_rest (zip_second l.a-iterator) in
    let gap = g.S.Measured.excess in
    (length xs ≡ length ys) × (l.sum + 65535 * length xs ≤ 65535 * 4096) × (l.sum + gap_sum gap xs ys ≡ gap_sum gap l.first l.second)
