-- Records of eight bytes. Assumes nothing.
use Rattle.std.proofs.Common.{ℕ, zero, suc, ◌+◌, ◌*◌, ◌/◌, ◌<◌, ◌≤◌, List, [], ◌∷◌, length, take, drop, arith, lit<, length-drop, length-take-le, get_or-drop, get_or-take}
use Rattle.std.specs.Simd.{first_chunks}
use Rattle.records.specs.Records.{byte}
use Rattle.records.specs.Jobs.{records_in}
use Rattle.job_calls.specs.Reading.{Eight}
use Rattle.job_calls.specs.Laws.{Bytes}

-- each of the records has eight bytes
pub data AllEight : List (List ℕ) → Type 0 where
  no_more : AllEight []
  and_more : {r : List ℕ} {rs : List (List ℕ)} → Eight r → AllEight rs → AllEight (r ∷ rs)

chunks_eight : (k : ℕ) (bs : List ℕ) → 8 * k ≤ length bs → Bytes bs → AllEight (first_chunks 8 k bs)
chunks_eight zero bs le small = no_more
chunks_eight (suc k) bs le small =
    let less = length-drop 8 bs in
    let low : byte (take 8 bs) 1 < 256 = rw (get_or-take 8 bs 1 0 (lit< tt)) (small 1) in
    and_more (record { count = length-take-le 8 bs (omega arith); low = low })
    (chunks_eight k (drop 8 bs) (omega arith) (λ i. rw (get_or-drop 8 bs i 0) (small (8 + i))))

pub records_eight : (bs : List ℕ) → Bytes bs → AllEight (records_in bs)
records_eight bs small = chunks_eight (length bs / 8) bs (omega arith) small
