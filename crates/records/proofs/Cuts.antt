-- Bytes cut into records. Assumes nothing.
use Rattle.std.proofs.Common.{◌≡◌, ℕ, zero, suc, ◌+◌, ◌*◌, ◌/◌, ◌%◌, List, [], ◌∷◌, ◌++◌, length, take, drop, sym, refl, ap, ◌∙◌, subst, arith, length-append, length-drop, take-append-drop}
use lib.Seq.{take-append_seam, drop-append_seam}
use Rattle.std.specs.Simd.{first_chunks}
use Rattle.std.specs.List.{concat}
use Rattle.morphology.specs.Calls.{Call}
use Rattle.records.specs.Jobs.{Job, pixel_records, call_records, records_of, job_bytes, records_in, left_over}

-- records of eight bytes each
pub data Eights : List (List ℕ) → Type 0 where
  no_record : Eights []
  one_record : {r : List ℕ} {rs : List (List ℕ)} → length r ≡ 8 → Eights rs → Eights (r ∷ rs)

eights_append : {rs ss : List (List ℕ)} → Eights rs → Eights ss → Eights (rs ++ ss)
eights_append no_record q = q
eights_append (one_record e p) q = one_record e (eights_append p q)

pixels_eight : (i : ℕ) (vs gs : List ℕ) → Eights (pixel_records i vs gs)
pixels_eight i [] gs = no_record
pixels_eight i (v ∷ vs) [] = no_record
pixels_eight i (v ∷ vs) (g ∷ gs) = one_record refl (pixels_eight (i + 1) vs gs)

calls_eight : (cs : List Call) → Eights (call_records cs)
calls_eight [] = no_record
calls_eight (c ∷ cs) = one_record refl (calls_eight cs)

job_eight : (j : Job) → Eights (records_of j)
job_eight j = one_record refl (eights_append (pixels_eight 0 j.map j.grey) (calls_eight j.calls))

joined_length : {rs : List (List ℕ)} → Eights rs → length (concat rs) ≡ 8 * length rs
joined_length no_record = refl
joined_length {rs = r ∷ rs} (one_record e p) = length-append r (concat rs) ∙ omega (arith, joined_length p)

-- cut into runs of eight, the bytes of records are the records again
cut_again : {rs : List (List ℕ)} → Eights rs → first_chunks 8 (length rs) (concat rs) ≡ rs
cut_again no_record = refl
cut_again {rs = r ∷ rs} (one_record e p) =
    let front : take 8 (r ++ concat rs) ≡ r = subst (λ n. take n (r ++ concat rs) ≡ r) e (take-append_seam r (concat rs)) in
    let back : drop 8 (r ++ concat rs) ≡ concat rs = subst (λ n. drop n (r ++ concat rs) ≡ concat rs) e (drop-append_seam r (concat rs)) in
    rw (front, back, cut_again p) refl

-- the records of a job's bytes are the job's, and nothing is left over
pub job_cut : (j : Job) → (records_in (job_bytes j) ≡ records_of j) × (left_over (job_bytes j) ≡ 0)
job_cut j =
    let p = job_eight j in
    let n = joined_length p in
    let count : length (job_bytes j) / 8 ≡ length (records_of j) = omega arith in
    let left : length (job_bytes j) % 8 ≡ 0 = omega arith in
    (ap (λ k. first_chunks 8 k (job_bytes j)) count ∙ cut_again p, left)

-- the records are all the bytes where nothing is left over
joined_again : (k : ℕ) (bs : List ℕ) → length bs ≡ 8 * k → concat (first_chunks 8 k bs) ≡ bs
joined_again zero [] e = refl
joined_again zero (b ∷ bs) e = absurd (omega arith)
joined_again (suc k) bs e =
    let less = length-drop 8 bs in
    ap (λ t. take 8 bs ++ t) (joined_again k (drop 8 bs) (omega arith)) ∙ take-append-drop 8 bs

pub bytes_of : (bs : List ℕ) (j : Job) → records_in bs ≡ records_of j → left_over bs ≡ 0 → bs ≡ job_bytes j
bytes_of bs j e none = sym (joined_again (length bs / 8) bs (omega arith)) ∙ ap concat e
