-- What records come to, and that they come to nothing else. Assumes nothing.
use Rattle.std.proofs.Common.{◌≡◌, ℕ, suc, ◌+◌, ◌<◌, Bool, true, false, eqb, List, [], ◌∷◌, ◌++◌, length, Some, None, Ok, Err, Option, Result, sym, refl, ap, ◌∙◌, subst, append_assoc, append-nil, arith, length-append}
use lib.Seq.{append_snoc}
use Rattle.std.proofs.lemmas.Bool.{eq-eqb, ne_eqb, eqb-true, eqb-false}
use Rattle.criteria.specs.declared.fault.MapFault.TheVariants.{Inadmissible}
use Rattle.maps.specs.Checks.{first_fault}
use Rattle.maps.specs.Admission.{FirstNot, first_not}
use Rattle.maps.proofs.Firsts.{first_not_is, first_not_only}
use Rattle.morphology.specs.Calls.{Call}
use Rattle.bench.specs.declared.fault.BenchFault.TheVariants as bench-fault
use Rattle.records.specs.declared.fault.ReaderFault.{ReaderFault}
use Rattle.records.specs.declared.fault.ReaderFault.TheVariants as reader
use Rattle.records.specs.declared.records.Head.{Head}
use Rattle.records.specs.declared.records.Record.{Record}
use Rattle.records.specs.declared.records.Record.TheVariants as sound
use Rattle.records.specs.declared.place.Place.{Place}
use Rattle.records.specs.declared.place.Place.TheVariants as place
use Rattle.records.specs.Records.{pixels}
use Rattle.records.specs.Reading.{head_checks, taken, ended, judged}
use Rattle.records.specs.Encoding.{encoded, Comes, head, pixel, call}
use Rattle.records.proofs.Encodings.{reads_back, only_may_come, only_written}
use Rattle.records.specs.Jobs.{Job, job_bytes, pixel_records, tile_records, call_record, call_records, records_of, Tile, Sound, Unfinished, no_head, some_pixels}
use Rattle.job_calls.specs.Stops.{Bad, by_record, by_end, Stops, in_tile, at_seat, in_calls}
use Rattle.job_calls.specs.Reading.{Eight}
use Rattle.records.specs.Jobs.{records_in, left_over}
use Rattle.job_calls.specs.Laws.{Bytes, Outcome, done, stopped, ComesTo, as_job, to_fault}
use Rattle.records.proofs.Heads.{some_pixel}
use Rattle.job_calls.proofs.Tiles.{tile_count, tile_more}
use Rattle.job_calls.proofs.Calling.{calls_more}
use Rattle.records.proofs.Cuts.{job_cut, bytes_of}
use Rattle.job_calls.proofs.Cuts.{AllEight, no_more, and_more, records_eight}

-- what was read so far: nothing, the head and some pixels of a tile, or a whole tile and some calls
data Part : Type 0 where
  nothing : Part
  tile : Head → List ℕ → List ℕ → Part
  whole : Job → Part

abbrev place_of : Part → Place
place_of nothing = place.Head
place_of (tile h m g) = place.Pixels h (length m)
place_of (whole j) = place.Calls j.head

abbrev seen : Part → Option Job
seen nothing = None
seen (tile h m g) = None
seen (whole j) = Some j

abbrev job_of : Head → List ℕ → List ℕ → Job
job_of h m g = record { head = h; map = m; grey = g; calls = [] }

abbrev with_calls : Job → List Call → Job
with_calls j cs = record { head = j.head; map = j.map; grey = j.grey; calls = j.calls ++ cs }

-- a whole tile at record n, with the first of its values that is not admitted, if any
abbrev seat : Option ℕ → ℕ → Head → List ℕ → List ℕ → Result Part ReaderFault
seat None n h m g = Ok (whole (job_of h m g))
seat (Some i) n h m g = Err (reader.Bench (bench-fault.Map (Inadmissible i)) n)

-- a tile with one pixel more, which is the last or not
abbrev filled : Bool → ℕ → Head → List ℕ → List ℕ → Result Part ReaderFault
filled true n h m g = seat (first_not (judged h).admits m) n h m g
filled false n h m g = Ok (tile h m g)

-- one record more; the last case of each part does not arise
abbrev after : ℕ → Part → Result Record ReaderFault → Result Part ReaderFault
after n nothing (Ok (sound.Head h)) = Ok (tile h [] [])
after n nothing (Ok (sound.Pixel v y)) = Err (reader.Order n)
after n nothing (Ok (sound.Call o k)) = Err (reader.Order n)
after n nothing (Err f) = Err f
after n (tile h m g) (Ok (sound.Head k)) = Err (reader.Order n)
after n (tile h m g) (Ok (sound.Pixel v y)) = filled (eqb (length m + 1) (pixels h)) n h (m ++ (v ∷ [])) (g ++ (y ∷ []))
after n (tile h m g) (Ok (sound.Call o k)) = Err (reader.Order n)
after n (tile h m g) (Err f) = Err f
after n (whole j) (Ok (sound.Head h)) = Err (reader.Order n)
after n (whole j) (Ok (sound.Pixel v y)) = Err (reader.Order n)
after n (whole j) (Ok (sound.Call o k)) = Ok (whole (with_calls j (record { operation = o; size = k } ∷ [])))
after n (whole j) (Err f) = Err f

-- the end of the records; a part that is not whole does not end well
abbrev out_of : Part → Result Head ReaderFault → Outcome
out_of nothing (Ok h) = stopped None (reader.Order 0)
out_of nothing (Err f) = stopped None f
out_of (tile h m g) (Ok k) = stopped None (reader.Order 0)
out_of (tile h m g) (Err f) = stopped None f
out_of (whole j) (Ok h) = done j
out_of (whole j) (Err f) = stopped (Some j) f

abbrev onward : Result Part ReaderFault → Part → (Part → Outcome) → Outcome
onward (Ok q) p more = more q
onward (Err f) p more = stopped (seen p) f

-- the records from number n on
abbrev read : ℕ → Part → List (List ℕ) → ℕ → Outcome
read n p [] left = out_of p (ended n left (place_of p))
read n p (bs ∷ rs) left = onward (after n p (taken n (place_of p) bs)) p (λ q. read (n + 1) q rs left)

-- what is bad ends the reading
bad_ends : (n : ℕ) (p : Part) {rest : List (List ℕ)} {left : ℕ} {f : ReaderFault} → Bad n (place_of p) rest left f → read n p rest left ≡ stopped (seen p) f
bad_ends n nothing (by_record e) = rw e refl
bad_ends n nothing (by_end e) = rw e refl
bad_ends n (tile h m g) (by_record e) = rw e refl
bad_ends n (tile h m g) (by_end e) = rw e refl
bad_ends n (whole j) (by_record e) = rw e refl
bad_ends n (whole j) (by_end e) = rw e refl

calls_count : (cs : List Call) → length (call_records cs) ≡ length cs
calls_count [] = refl
calls_count (c ∷ cs) = ap suc (calls_count cs)

-- calls are read one after another
calls_read : (j : Job) (cs : List Call) (rest : List (List ℕ)) (n left : ℕ) →
    read n (whole j) (call_records cs ++ rest) left ≡ read (n + length cs) (whole (with_calls j cs)) rest left
calls_read j [] rest n left =
    let same : n ≡ n + 0 = omega arith in
    ap (λ k. read k (whole j) rest left) same ∙ ap (λ cs. read (n + 0) (whole (record { head = j.head; map = j.map; grey = j.grey; calls = cs })) rest left) (sym (append-nil j.calls))
calls_read j (c ∷ cs) rest n left =
    let r = sound.Call c.operation c.size in
    let one = reads_back n (place.Calls j.head) r call in
    let same : (n + 1) + length cs ≡ n + suc (length cs) = omega arith in
    ap (λ t. onward (after n (whole j) t) (whole j) (λ q. read (n + 1) q (call_records cs ++ rest) left)) one
    ∙ calls_read (with_calls j (c ∷ [])) cs rest (n + 1) left
    ∙ ap (λ k. read k (whole (with_calls (with_calls j (c ∷ [])) cs)) rest left) same
    ∙ ap (λ xs. read (n + suc (length cs)) (whole (record { head = j.head; map = j.map; grey = j.grey; calls = xs })) rest left) (append_snoc j.calls c cs)

module _ (h : Head) (rest : List (List ℕ)) (left : ℕ) where
  -- one pixel
  pixel_read : (m g : List ℕ) (v y i n : ℕ) (more : List (List ℕ)) → length m ≡ i →
      read n (tile h m g) (encoded i (sound.Pixel v y) ∷ more) left
      ≡ onward (filled (eqb (length m + 1) (pixels h)) n h (m ++ (v ∷ [])) (g ++ (y ∷ []))) (tile h m g) (λ q. read (n + 1) q more left)
  pixel_read m g v y i n more e =
      let one = reads_back n (place.Pixels h (length m)) (sound.Pixel v y) pixel in
      ap (λ k. read n (tile h m g) (encoded k (sound.Pixel v y) ∷ more) left) (sym e)
      ∙ ap (λ t. onward (after n (tile h m g) t) (tile h m g) (λ q. read (n + 1) q more left)) one

  -- pixels that leave the tile unfinished
  some_read : (vs gs m g : List ℕ) (i n : ℕ) → length m ≡ i → length gs ≡ length vs → length m + length vs < pixels h →
      read n (tile h m g) (pixel_records i vs gs ++ rest) left ≡ read (n + length vs) (tile h (m ++ vs) (g ++ gs)) rest left
  some_read [] [] m g i n e same less =
      let k : n ≡ n + 0 = omega arith in
      ap (λ k. read k (tile h m g) rest left) k ∙ ap (λ xs. read (n + 0) (tile h xs g) rest left) (sym (append-nil m)) ∙ ap (λ xs. read (n + 0) (tile h (m ++ []) xs) rest left) (sym (append-nil g))
  some_read [] (y ∷ gs) m g i n e same less = absurd (omega arith)
  some_read (v ∷ vs) [] m g i n e same less = absurd (omega arith)
  some_read (v ∷ vs) (y ∷ gs) m g i n e same less =
      let more = pixel_records (i + 1) vs gs ++ rest in
      let on : eqb (length m + 1) (pixels h) ≡ false = ne_eqb (length m + 1) (pixels h) (λ q. omega arith) in
      let longer = length-append m (v ∷ []) in
      let number : (n + 1) + length vs ≡ n + suc (length vs) = omega arith in
      pixel_read m g v y i n more e
      ∙ ap (λ b. onward (filled b n h (m ++ (v ∷ [])) (g ++ (y ∷ []))) (tile h m g) (λ q. read (n + 1) q more left)) on
      ∙ some_read vs gs (m ++ (v ∷ [])) (g ++ (y ∷ [])) (i + 1) (n + 1) (omega arith) (omega arith) (omega arith)
      ∙ ap (λ k. read k (tile h ((m ++ (v ∷ [])) ++ vs) ((g ++ (y ∷ [])) ++ gs)) rest left) number
      ∙ ap (λ xs. read (n + suc (length vs)) (tile h xs ((g ++ (y ∷ [])) ++ gs)) rest left) (append_snoc m v vs)
      ∙ ap (λ xs. read (n + suc (length vs)) (tile h (m ++ (v ∷ vs)) xs) rest left) (append_snoc g y gs)

  -- whose tile it is does not matter where no picture is seated
  onward_seen : (r : Result Part ReaderFault) (m g : List ℕ) (more : Part → Outcome) → onward r (tile h m g) more ≡ onward r nothing more
  onward_seen (Ok q) m g more = refl
  onward_seen (Err f) m g more = refl

  -- pixels that make the tile whole, the last of them record k
  all_read : (vs gs m g : List ℕ) (i n k : ℕ) → length m ≡ i → length gs ≡ length vs → 0 < length vs → length m + length vs ≡ pixels h → k + 1 ≡ n + length vs →
      read n (tile h m g) (pixel_records i vs gs ++ rest) left
      ≡ onward (seat (first_not (judged h).admits (m ++ vs)) k h (m ++ vs) (g ++ gs)) nothing (λ q. read (k + 1) q rest left)
  all_read [] gs m g i n k e same some all last = absurd (omega arith)
  all_read (v ∷ vs) [] m g i n k e same some all last = absurd (omega arith)
  all_read (v ∷ []) (y ∷ []) m g i n k e same some all last =
      let on : eqb (length m + 1) (pixels h) ≡ true = eq-eqb (length m + 1) (pixels h) (omega arith) in
      let number : n ≡ k = omega arith in
      pixel_read m g v y i n rest e
      ∙ ap (λ b. onward (filled b n h (m ++ (v ∷ [])) (g ++ (y ∷ []))) (tile h m g) (λ q. read (n + 1) q rest left)) on
      ∙ onward_seen (filled true n h (m ++ (v ∷ [])) (g ++ (y ∷ []))) m g (λ q. read (n + 1) q rest left)
      ∙ ap (λ x. onward (filled true x h (m ++ (v ∷ [])) (g ++ (y ∷ []))) nothing (λ q. read (x + 1) q rest left)) number
  all_read (v ∷ []) (y ∷ y' ∷ gs) m g i n k e same some all last = absurd (omega arith)
  all_read (v ∷ v' ∷ vs) (y ∷ []) m g i n k e same some all last = absurd (omega arith)
  all_read (v ∷ v' ∷ vs) (y ∷ y' ∷ gs) m g i n k e same some all last =
      let more = pixel_records (i + 1) (v' ∷ vs) (y' ∷ gs) ++ rest in
      let on : eqb (length m + 1) (pixels h) ≡ false = ne_eqb (length m + 1) (pixels h) (λ q. omega arith) in
      let longer = length-append m (v ∷ []) in
      pixel_read m g v y i n more e
      ∙ ap (λ b. onward (filled b n h (m ++ (v ∷ [])) (g ++ (y ∷ []))) (tile h m g) (λ q. read (n + 1) q more left)) on
      ∙ all_read (v' ∷ vs) (y' ∷ gs) (m ++ (v ∷ [])) (g ++ (y ∷ [])) (i + 1) (n + 1) k (omega arith) (omega arith) (omega arith) (omega arith) (omega arith)
      ∙ ap (λ xs. onward (seat (first_not (judged h).admits xs) k h xs ((g ++ (y ∷ [])) ++ (y' ∷ gs))) nothing (λ q. read (k + 1) q rest left)) (append_snoc m v (v' ∷ vs))
      ∙ ap (λ xs. onward (seat (first_not (judged h).admits (m ++ (v ∷ v' ∷ vs))) k h (m ++ (v ∷ v' ∷ vs)) xs) nothing (λ q. read (k + 1) q rest left)) (append_snoc g y (y' ∷ gs))

-- the head
head_read : (h : Head) (rs : List (List ℕ)) (left : ℕ) → first_fault (head_checks h) ≡ None →
    read 0 nothing (encoded 0 (sound.Head h) ∷ rs) left ≡ read 1 (tile h [] []) rs left
head_read h rs left passes =
    let one = reads_back 0 place.Head (sound.Head h) (head passes) in
    ap (λ t. onward (after 0 nothing t) nothing (λ q. read 1 q rs left)) one

-- a whole tile
tile_read : (h : Head) (m g : List ℕ) (rest : List (List ℕ)) (left : ℕ) (o : Option ℕ) → Tile h m g → FirstNot (judged h).admits m o →
    read 0 nothing (tile_records h m g ++ rest) left ≡ onward (seat o (pixels h) h m g) nothing (λ q. read (pixels h + 1) q rest left)
tile_read h m g rest left o T first =
    let some = some_pixel h T.passes in
    head_read h (pixel_records 0 m g ++ rest) left T.passes
    ∙ all_read h rest left m g [] [] 0 1 (pixels h) refl (T.grey_count ∙ sym T.map_count) (omega (arith, T.map_count)) (omega (arith, T.map_count)) (omega (arith, T.map_count))
    ∙ ap (λ x. onward (seat x (pixels h) h m g) nothing (λ q. read (pixels h + 1) q rest left)) (sym (first_not_only (judged h).admits first))

-- a sound job
job_read : (j : Job) (rest : List (List ℕ)) (left : ℕ) → Sound j →
    read 0 nothing (records_of j ++ rest) left ≡ read (length (records_of j)) (whole j) rest left
job_read j rest left s =
    let h = j.head in
    let t = s.tile in
    let front = tile_records h j.map j.grey in
    let count = tile_count h j.map j.grey (t.grey_count ∙ sym t.map_count) in
    let all = length-append front (call_records j.calls) in
    let calls = calls_count j.calls in
    let number : (pixels h + 1) + length j.calls ≡ length (records_of j) = omega (arith, t.map_count) in
    ap (λ rs. read 0 nothing rs left) (append_assoc front (call_records j.calls) rest)
    ∙ tile_read h j.map j.grey (call_records j.calls ++ rest) left None t s.admitted
    ∙ calls_read (job_of h j.map j.grey) j.calls rest (pixels h + 1) left
    ∙ ap (λ k. read k (whole j) rest left) number

-- a fault that ends the reading is what the records come to
stops_only : (records : List (List ℕ)) (left : ℕ) (o : Option Job) (f : ReaderFault) → Stops records left o f → read 0 nothing records left ≡ stopped o f
stops_only records left o f (in_tile {rest = rest} no_head bad e) = ap (λ rs. read 0 nothing rs left) e ∙ bad_ends 0 nothing bad
stops_only records left o f (in_tile {rest = rest} (some_pixels h m g passes same less) bad e) =
    let number : 1 + length m ≡ length (tile_records h m g) = omega (arith, tile_count h m g same) in
    ap (λ rs. read 0 nothing rs left) e
    ∙ head_read h (pixel_records 0 m g ++ rest) left passes
    ∙ some_read h rest left m g [] [] 0 1 refl same (omega arith)
    ∙ ap (λ k. read k (tile h m g) rest left) number
    ∙ bad_ends (length (tile_records h m g)) (tile h m g) bad
stops_only records left o f (at_seat h m g rest {i = i} T first e) = ap (λ rs. read 0 nothing rs left) e ∙ tile_read h m g rest left (Some i) T first
stops_only records left o f (in_calls j {rest = rest} s bad e) =
    ap (λ rs. read 0 nothing rs left) e ∙ job_read j rest left s ∙ bad_ends (length (records_of j)) (whole j) bad

-- and so is a sound job
job_only : (j : Job) → Sound j → read 0 nothing (records_of j) 0 ≡ done j
job_only j s = ap (λ rs. read 0 nothing rs 0) (sym (append-nil (records_of j))) ∙ job_read j [] 0 s

only : (bs : List ℕ) (o : Outcome) → ComesTo bs o → read 0 nothing (records_in bs) (left_over bs) ≡ o
only bs o (as_job {j = j} s e) =
    let cut = job_cut j in
    ap (λ cs. read 0 nothing (records_in cs) (left_over cs)) e
    ∙ ap (λ rs. read 0 nothing rs (left_over (job_bytes j))) cut.0
    ∙ ap (λ k. read 0 nothing (records_of j) k) cut.1
    ∙ job_only j s
only bs o (to_fault {o = x} {f = f} s) = stops_only (records_in bs) (left_over bs) x f s

-- bytes come to one thing only
pub one_outcome : (bs : List ℕ) (o p : Outcome) → ComesTo bs o → ComesTo bs p → o ≡ p
one_outcome bs o p a b = sym (only bs o a) ∙ only bs p b

-- records come to a sound job with nothing left over, or to a fault
data ComesOut (records : List (List ℕ)) (left : ℕ) : Outcome → Type 0 where
  to_job : {j : Job} → Sound j → records ≡ records_of j → left ≡ 0 → ComesOut records left (done j)
  to_stop : {o : Option Job} {f : ReaderFault} → Stops records left o f → ComesOut records left (stopped o f)

module _ (records : List (List ℕ)) (left : ℕ) where
  abbrev SomeOutcome : Type 0
  SomeOutcome = (o : Outcome) × ComesOut records left o

  -- the end after the calls of a job
  end_calls : (j : Job) → Sound j → records ≡ records_of j ++ [] → (b : Bool) → eqb left 0 ≡ b → SomeOutcome
  end_calls j s e true q = (done j, to_job s (e ∙ append-nil (records_of j)) (eqb-true left 0 q))
  end_calls j s e false q = (stopped (Some j) (reader.Torn (length (records_of j))), to_stop (in_calls j s (by_end (rw q refl)) e))

  -- a record among the calls
  module _ (j : Job) (s : Sound j) (bs : List ℕ) (rs : List (List ℕ)) (e : records ≡ records_of j ++ (bs ∷ rs))
      (later : (k : Job) → Sound k → records ≡ records_of k ++ rs → SomeOutcome) where
    a_call : {r : Record} → Comes (place.Calls j.head) r → bs ≡ encoded 0 r → SomeOutcome
    a_call (call {o = o} {s = k}) w =
        let c : Call = record { operation = o; size = k } in
        let front = tile_records j.head j.map j.grey in
        let calls = call_records j.calls in
        later (with_calls j (c ∷ [])) (record { tile = s.tile; admitted = s.admitted })
        (e ∙ ap (λ b. (front ++ calls) ++ (b ∷ rs)) w ∙ sym (append_snoc (front ++ calls) (call_record c) rs)
        ∙ ap (λ xs. xs ++ rs) (append_assoc front calls (call_record c ∷ []) ∙ ap (λ xs. front ++ xs) (sym (calls_more j.calls c))))

    next_call : Eight bs → (t : Result Record ReaderFault) → taken (length (records_of j)) (place.Calls j.head) bs ≡ t → SomeOutcome
    next_call eight (Err f) q = (stopped (Some j) f, to_stop (in_calls j s (by_record q) e))
    next_call eight (Ok r) q =
        let n = length (records_of j) in
        a_call (only_may_come n (place.Calls j.head) bs r q) (only_written n (place.Calls j.head) bs r eight.count eight.low q)

  exists_calls : (rs : List (List ℕ)) (j : Job) → Sound j → AllEight rs → records ≡ records_of j ++ rs → SomeOutcome
  exists_calls [] j s no_more e = end_calls j s e (eqb left 0) refl
  exists_calls (bs ∷ rs) j s (and_more eight more) e =
      next_call j s bs rs e (λ k sk ek. exists_calls rs k sk more ek) eight (taken (length (records_of j)) (place.Calls j.head) bs) refl

  -- the end of an unfinished tile
  end_tile : {p : Place} {front : List (List ℕ)} → Unfinished p front → records ≡ front ++ [] →
      (b : Bool) → eqb left 0 ≡ b → SomeOutcome
  end_tile {front = front} no_head e true q = (stopped None (reader.Order 0), to_stop (in_tile no_head (by_end (rw q refl)) e))
  end_tile {front = front} no_head e false q = (stopped None (reader.Torn 0), to_stop (in_tile no_head (by_end (rw q refl)) e))
  end_tile {front = front} (some_pixels h m g p a b) e true q = (stopped None (reader.Order (length front)), to_stop (in_tile (some_pixels h m g p a b) (by_end (rw q refl)) e))
  end_tile {front = front} (some_pixels h m g p a b) e false q = (stopped None (reader.Torn (length front)), to_stop (in_tile (some_pixels h m g p a b) (by_end (rw q refl)) e))

  -- a record of an unfinished tile
  module _ (h : Head) (m g : List ℕ) (passes : first_fault (head_checks h) ≡ None) (same : length g ≡ length m) (less : length m < pixels h)
      (bs : List ℕ) (rs : List (List ℕ)) (more : AllEight rs) (e : records ≡ tile_records h m g ++ (bs ∷ rs))
      (later : (m' g' : List ℕ) → length g' ≡ length m' → length m' < pixels h → records ≡ tile_records h m' g' ++ rs → SomeOutcome) where
    a_pixel_more : (m' g' : List ℕ) → length g' ≡ length m' → length m' ≡ length m + 1 → records ≡ tile_records h m' g' ++ rs →
        (b : Bool) → eqb (length m + 1) (pixels h) ≡ b → SomeOutcome
    a_pixel_more m' g' a l r false q = let ne = eqb-false (length m + 1) (pixels h) q in later m' g' a (omega arith) r
    a_pixel_more m' g' a l r true q = seated (first_not (judged h).admits m') refl
      where
        all : length m + 1 ≡ pixels h
        all = eqb-true (length m + 1) (pixels h) q

        whole_tile : Tile h m' g'
        whole_tile = record { passes = passes; map_count = l ∙ all; grey_count = a ∙ l ∙ all }

        seated : (o : Option ℕ) → first_not (judged h).admits m' ≡ o → SomeOutcome
        seated None f = exists_calls rs (job_of h m' g') (record { tile = whole_tile; admitted = subst (FirstNot (judged h).admits m') f (first_not_is (judged h).admits m') }) more
            (r ∙ ap (λ xs. xs ++ rs) (sym (append-nil (tile_records h m' g'))))
        seated (Some i) f = (stopped None _, to_stop (at_seat h m' g' rs whole_tile (subst (FirstNot (judged h).admits m') f (first_not_is (judged h).admits m')) r))

    a_pixel : {r : Record} → Comes (place.Pixels h (length m)) r → bs ≡ encoded (length m) r → SomeOutcome
    a_pixel (pixel {v = v} {g = y}) w =
        let a = length-append m (v ∷ []) in
        let b = length-append g (y ∷ []) in
        let front = tile_records h m g in
        a_pixel_more (m ++ (v ∷ [])) (g ++ (y ∷ [])) (omega arith) a
        (e ∙ ap (λ x. front ++ (x ∷ rs)) w ∙ sym (append_snoc front (encoded (length m) (sound.Pixel v y)) rs) ∙ ap (λ xs. xs ++ rs) (sym (tile_more h m g v y (length m) refl same)))
        (eqb (length m + 1) (pixels h)) refl

    next_pixel : Eight bs → (t : Result Record ReaderFault) → taken (length (tile_records h m g)) (place.Pixels h (length m)) bs ≡ t → SomeOutcome
    next_pixel eight (Err f) q = (stopped None f, to_stop (in_tile (some_pixels h m g passes same less) (by_record q) e))
    next_pixel eight (Ok r) q =
        let n = length (tile_records h m g) in
        a_pixel (only_may_come n (place.Pixels h (length m)) bs r q) (only_written n (place.Pixels h (length m)) bs r eight.count eight.low q)

  exists_tile : (rs : List (List ℕ)) (h : Head) (m g : List ℕ) → first_fault (head_checks h) ≡ None → length g ≡ length m → length m < pixels h →
      AllEight rs → records ≡ tile_records h m g ++ rs → SomeOutcome
  exists_tile [] h m g passes same less no_more e = end_tile (some_pixels h m g passes same less) e (eqb left 0) refl
  exists_tile (bs ∷ rs) h m g passes same less (and_more eight more) e =
      next_pixel h m g passes same less bs rs more e (λ m' g' a b r. exists_tile rs h m' g' passes a b more r) eight (taken (length (tile_records h m g)) (place.Pixels h (length m)) bs) refl

  -- the first record
  module _ (bs : List ℕ) (rs : List (List ℕ)) (more : AllEight rs) (e : records ≡ bs ∷ rs) where
    a_head : {r : Record} → Comes place.Head r → bs ≡ encoded 0 r → SomeOutcome
    a_head (head {h = h} passes) w = exists_tile rs h [] [] passes refl (some_pixel h passes) more (e ∙ ap (λ x. x ∷ rs) w)

    first_record : Eight bs → (t : Result Record ReaderFault) → taken 0 place.Head bs ≡ t → SomeOutcome
    first_record eight (Err f) q = (stopped None f, to_stop (in_tile no_head (by_record q) e))
    first_record eight (Ok r) q = a_head (only_may_come 0 place.Head bs r q) (only_written 0 place.Head bs r eight.count eight.low q)

  exists_all : (rs : List (List ℕ)) → AllEight rs → records ≡ rs → SomeOutcome
  exists_all [] no_more e = end_tile no_head e (eqb left 0) refl
  exists_all (bs ∷ rs) (and_more eight more) e = first_record bs rs more e eight (taken 0 place.Head bs) refl

-- bytes come to something
pub some_outcome : (bs : List ℕ) → Bytes bs → (o : Outcome) × ComesTo bs o
some_outcome bs small = at (exists_all (records_in bs) (left_over bs) (records_in bs) (records_eight bs small) refl)
  where
    at : (o : Outcome) × ComesOut (records_in bs) (left_over bs) o → (o : Outcome) × ComesTo bs o
    at (o, to_job {j = j} s e none) = (done j, as_job s (bytes_of bs j e none))
    at (o, to_stop {o = x} {f = f} s) = (stopped x f, to_fault s)
