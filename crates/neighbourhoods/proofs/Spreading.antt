-- A flood under way: what it keeps, and what it has found in the end. Assumes nothing.
use Rattle.std.proofs.Common.{◌≡◌, ℕ, suc, ◌+◌, ◌<◌, ◌≤◌, Bool, true, false, cond, ◌&&◌, List, [], ◌∷◌, ◌++◌, length, drop, Some, None, Option, sym, refl, ap, ◌∙◌, subst, inl, inr, arith}
use Rattle.std.proofs.lemmas.List.{take_more_set, length-take-le, drop-set-lt, drop-drop}
use Rattle.std.proofs.lemmas.Bool.{both_ways, cases_eq, and_parts, and_from, and_cases}
use Rattle.morphology.specs.Tile.{Joined}
use Rattle.morphology.specs.Neighbourhoods.{Ground, pixels, Weak, first, next}
use Rattle.morphology.specs.Pictures.{At, here, later}
use Rattle.morphology.proofs.Pictures.{at_one, at_bound}
use Rattle.morphology.proofs.Tables.{weak_inside}
use Rattle.neighbourhoods.specs.Marks.{served, free, marked, Clear}
use Rattle.neighbourhoods.specs.Steps.{steps_of, place_of, led, neighbours, Leads}
use Rattle.neighbourhoods.specs.Listings.{In, Lists}
use Rattle.neighbourhoods.specs.Finds.{Finds, found_in, taken_in, visited, visit_each, Room, unmark_all}
use Rattle.neighbourhoods.specs.Floods.{among_free, SpreadOut}
use Rattle.neighbourhoods.proofs.Listing.{at_head, at_before, at_last, at_pushed, at_map, at_mapped}
use Rattle.neighbourhoods.proofs.Stepping.{steps_lead}
use Rattle.neighbourhoods.proofs.Marking.{mark_all, mark_all_length, mark_all_push, Fresh, none, fresh_push, fresh_once, free_at_first, marked_since, all_back}
use Rattle.neighbourhoods.proofs.Rooms.{room_left, room_taken, room_at_first}

-- among the free pixels, or all
free_weak : (g : Ground) (m : List ℕ) (z : ℕ) {p : ℕ} → Weak (among_free m g) z p → Weak g z p
free_weak g m z (first in_tile near) = first in_tile (and_parts (g.near z z) (free m z) near).0
free_weak g m z (next {y = y} w j in_tile near) = next (free_weak g m z w) j in_tile (and_parts (g.near z y) (free m y) near).0

weak_free : (g : Ground) (m : List ℕ) (z : ℕ) → Clear (pixels g) m → {p : ℕ} → Weak g z p → Weak (among_free m g) z p
weak_free g m z clear (first in_tile near) = first in_tile (and_from (g.near z z) (free m z) near (clear z in_tile))
weak_free g m z clear (next {y = y} w j in_tile near) =
    next (weak_free g m z clear w) j in_tile (and_from (g.near z y) (free m y) near (clear y in_tile))

lists_same : {M N : ℕ → Type 0} {list : List ℕ} → ((p : ℕ) → M p → N p) → ((p : ℕ) → N p → M p) → Lists M list → Lists N list
lists_same to from l = record { sound = λ {i} {p} a. to p (l.sound a); complete = λ {p} n. l.complete (from p n); once = l.once }

module _ (g : Ground) (z : ℕ) (m queue : List ℕ) where
  -- A flood from z that began with these marks and this queue: the neighbours of its first `done` pixels are all visited.
  pub record Spread (done : ℕ) (f : Finds) : Type 0 where
    pub order : done ≤ f.count
    pub room : Room (pixels g) f
    pub rest : drop f.count f.queue ≡ drop f.count queue
    pub marks_are : f.marks ≡ mark_all m (found_in f)
    pub fresh : Fresh m (found_in f)
    pub sound : {i p : ℕ} → At (found_in f) i p → Weak (among_free m g) z p
    pub closed : {i p q : ℕ} → i < done → At (found_in f) i p → Joined g.width g.joining p q → q < pixels g →
        (among_free m g).near z q ≡ true → In (found_in f) q

  module _ {done : ℕ} {f : Finds} (s : Spread done f) where
    found_length : length (found_in f) ≡ f.count
    found_length = length-take-le f.count f.queue (let r = s.room.free_left in let k = s.room.queue_serves in omega arith)

    free_now : (q : ℕ) → free f.marks q ≡ true → free (mark_all m (found_in f)) q ≡ true
    free_now q h = subst (λ x. free x q ≡ true) s.marks_are h

    module _ (q : ℕ) (inside : q < pixels g) where
      push : free f.marks q ≡ true → found_in (taken_in q f) ≡ found_in f ++ q ∷ []
      push h = take_more_set f.queue f.count q (room_left s.room q inside h)

      served_at_first : q < served (length m)
      served_at_first =
          let same : length f.marks ≡ length m = ap length s.marks_are ∙ mark_all_length (found_in f) m in
          subst (λ x. q < served x) same (let k = s.room.marks_serve in omega arith)

      -- one more pixel of the neighbourhood is taken in
      taken : (h : free f.marks q ≡ true) → Weak (among_free m g) z q → Spread done (taken_in q f)
      taken h chain =
          let e = push h in
          record {
            order = let k = s.order in omega arith;
            room = room_taken s.room q inside h;
            rest = drop-set-lt (f.count + 1) f.queue f.count q (omega arith)
                ∙ sym (drop-drop 1 f.count f.queue) ∙ ap (drop 1) s.rest ∙ drop-drop 1 f.count queue;
            marks_are = ap (λ x. marked x q) s.marks_are ∙ sym (mark_all_push (found_in f) m q) ∙ ap (mark_all m) (sym e);
            fresh = subst (Fresh m) (sym e) (fresh_push q s.fresh served_at_first (free_now q h));
            sound = λ {i} {p} a. elim (at_pushed (found_in f) (subst (λ xs. At xs i p) e a)) [
              | inl b ↦ s.sound b
              | inr last ↦ subst (Weak (among_free m g) z) (sym last.1) chain
            ];
            closed = λ {i} {p} {q = u} early a j in_tile near. elim (at_pushed (found_in f) (subst (λ xs. At xs i p) e a)) [
              | inl b ↦ let r = s.closed early b j in_tile near in (r.0, subst (λ xs. At xs r.0 u) (sym e) (at_before q r.1))
              | inr last ↦ let k = s.order in absurd (omega (arith, last.0, found_length))
            ];
          }

      module _ (near : Bool) where
        keeps_by : (b : Bool) → (free f.marks q && near) ≡ b → {i p : ℕ} → At (found_in f) i p → At (found_in (cond b (taken_in q f) f)) i p
        keeps_by true e {i} {p} a = subst (λ xs. At xs i p) (sym (push (and_parts (free f.marks q) near e).0)) (at_before q a)
        keeps_by false e a = a

        -- what was found stays where it is
        visit_keeps : {i p : ℕ} → At (found_in f) i p → At (found_in (visited near q f)) i p
        visit_keeps a = keeps_by (free f.marks q && near) refl a

      near_now : free f.marks q ≡ true → g.near z q ≡ true → (among_free m g).near z q ≡ true
      near_now h near = and_from (g.near z q) (free m q) near (free_at_first (found_in f) m q (free_now q h))

      spread_by : ((among_free m g).near z q ≡ true → Weak (among_free m g) z q) →
          (b : Bool) → (free f.marks q && g.near z q) ≡ b → Spread done (cond b (taken_in q f) f)
      spread_by chain true e =
          let parts = and_parts (free f.marks q) (g.near z q) e in
          taken parts.0 (chain (near_now parts.0 parts.1))
      spread_by chain false e = s

      finds_by : (among_free m g).near z q ≡ true →
          (b : Bool) → (free f.marks q && g.near z q) ≡ b → In (found_in (cond b (taken_in q f) f)) q
      finds_by near true e =
          (length (found_in f), subst (λ xs. At xs (length (found_in f)) q) (sym (push (and_parts (free f.marks q) (g.near z q) e).0)) (at_last (found_in f) q))
      finds_by near false e =
          let parts = and_parts (g.near z q) (free m q) near in
          elim (and_cases (free f.marks q) (g.near z q) e) [
            | inl old ↦ marked_since (found_in f) m q parts.1 (subst (λ x. free x q ≡ false) s.marks_are old)
            | inr far ↦ absurd (both_ways (g.near z q) far parts.0)
          ]

      -- a visit of a pixel to which a chain leads
      visit_spread : ((among_free m g).near z q ≡ true → Weak (among_free m g) z q) → Spread done (visited (g.near z q) q f)
      visit_spread chain = spread_by chain (free f.marks q && g.near z q) refl

      -- a pixel that is near and was free at first is found once it is visited
      visit_finds : (among_free m g).near z q ≡ true → In (found_in (visited (g.near z q) q f)) q
      visit_finds near = finds_by near (free f.marks q && g.near z q) refl

  -- after visits from one pixel
  record After (done : ℕ) (f : Finds) (ps : List (Option ℕ)) (f' : Finds) : Type 0 where
    spread : Spread done f'
    keeps : {i p : ℕ} → At (found_in f) i p → At (found_in f') i p
    finds : {i q : ℕ} → At ps i (Some q) → (among_free m g).near z q ≡ true → In (found_in f') q

  -- the pixels to visit lie in the tile, and a chain leads to those that are near
  Reachable : List (Option ℕ) → Type 0
  Reachable ps = (i q : ℕ) → At ps i (Some q) → (q < pixels g) × ((among_free m g).near z q ≡ true → Weak (among_free m g) z q)

  visits : (ps : List (Option ℕ)) → Reachable ps → {done : ℕ} {f : Finds} → Spread done f → After done f ps (visit_each (g.near z) ps f)
  unfolding Reachable
  visits [] ok s = record { spread = s; keeps = λ a. a; finds = λ a near. elim a [ ] }
  visits (None ∷ ps) ok s =
      let r = visits ps (λ i q a. ok (suc i) q (later a)) s in
      record { spread = r.spread; keeps = r.keeps; finds = λ a near. skip a (λ k p b. r.finds b) near }
    where
      skip : {P : ℕ → Type 0} {i q : ℕ} → At (None ∷ ps) i (Some q) → ((k p : ℕ) → At ps k (Some p) → (among_free m g).near z p ≡ true → P p) →
          (among_free m g).near z q ≡ true → P q
      skip (later a) k near = k _ _ a near
  visits (Some q ∷ ps) ok {done} {f} s =
      let here-ok = ok 0 q here in
      let s' = visit_spread s q here-ok.0 here-ok.1 in
      let r = visits ps (λ i p a. ok (suc i) p (later a)) s' in
      record {
        spread = r.spread;
        keeps = λ a. r.keeps (visit_keeps s q here-ok.0 (g.near z q) a);
        finds = λ a near. split a near (λ n. let k = visit_finds s q here-ok.0 n in (k.0, r.keeps k.1)) (λ k p b. r.finds b);
      }
    where
      split : {P : ℕ → Type 0} {i p : ℕ} → At (Some q ∷ ps) i (Some p) → (among_free m g).near z p ≡ true →
          ((among_free m g).near z q ≡ true → P q) → ((k r : ℕ) → At ps k (Some r) → (among_free m g).near z r ≡ true → P r) → P p
      split here near first_of rest_of = first_of near
      split (later a) near first_of rest_of = rest_of _ _ a near

  -- where the steps lead from pixel p
  abbrev around : ℕ → List (Option ℕ)
  around p = neighbours g.width g.height g.joining p

  module _ (p : ℕ) (inside : p < pixels g) where
    leads_at : {i q : ℕ} → At (around p) i (Some q) → Leads g.width g.height g.joining p i q
    leads_at a = let r = at_mapped (λ s. led g.width g.height s (place_of g.width p)) (steps_of g.joining) a in
        record { by = r.0; listed = r.1; there = r.2 }

    at_leads : {i q : ℕ} → Leads g.width g.height g.joining p i q → At (around p) i (Some q)
    at_leads {i} l = subst (At (around p) i) l.there (at_map (λ s. led g.width g.height s (place_of g.width p)) l.listed)

    reachable : Weak (among_free m g) z p → Reachable (around p)
    unfolding Reachable
    reachable chain i q a =
        let laws = steps_lead g.width g.height g.joining p inside in
        let l = leads_at a in
        (laws.inside l, λ near. next chain (laws.sound l) (laws.inside l) near)

  keeps_all : {done p : ℕ} {f : Finds} → Spread done f → At (found_in f) done p →
      {i u : ℕ} → At (found_in f) i u → At (found_in (visit_each (g.near z) (around p) f)) i u
  keeps_all {p = p} s a b = let chain = s.sound a in (visits (around p) (reachable p (weak_inside chain) chain) s).keeps b

  -- the neighbours of one pixel more are visited
  pixel_done : {done p : ℕ} {f : Finds} → Spread done f → At (found_in f) done p → Spread (done + 1) (visit_each (g.near z) (around p) f)
  pixel_done {done} {p} {f} s a =
      let chain = s.sound a in
      let inside = weak_inside chain in
      let r = visits (around p) (reachable p inside chain) s in
      let t = r.spread in
      record {
        order = let k = at_bound (r.keeps a) in omega (arith, found_length t);
        room = t.room;
        rest = t.rest;
        marks_are = t.marks_are;
        fresh = t.fresh;
        sound = t.sound;
        closed = λ {i} {p = u} {q} early b j in_tile near. elim (cases_eq i done) [
          | inl e ↦
              let same : u ≡ p = at_one (subst (λ k. At (found_in (visit_each (g.near z) (around p) f)) k u) e b) (r.keeps a) in
              let l = (steps_lead g.width g.height g.joining p inside).complete in_tile (subst (λ x. Joined g.width g.joining x q) same j) in
              r.finds (at_leads p inside l.1) near
          | inr ne ↦ t.closed (omega arith) b j in_tile near
        ];
      }

  -- what a flood has before its first visit
  at_first : Finds
  at_first = record { marks = m; queue = queue; count = 0 }

  nothing_found : pixels g ≤ served (length m) → pixels g ≤ length queue → Spread 0 at_first
  unfolding at_first mark_all
  nothing_found serves holds = record {
    order = omega arith;
    room = room_at_first (pixels g) m queue serves holds;
    rest = refl;
    marks_are = refl;
    fresh = none;
    sound = λ a. elim a [ ];
    closed = λ early a j in_tile near. elim a [ ];
  }

  -- a flood in its loop: where its start is near and free, it is found
  pub record Flooding (done : ℕ) (f : Finds) : Type 0 where
    pub spread : Spread done f
    pub start : (among_free m g).near z z ≡ true → In (found_in f) z

  -- the first visit is that of the start
  pub begun : z < pixels g → pixels g ≤ served (length m) → pixels g ≤ length queue →
      Flooding 0 (visited (g.near z z) z (record { marks = m; queue = queue; count = 0 }))
  unfolding at_first
  begun inside serves holds =
      let s = nothing_found serves holds in
      record { spread = visit_spread s z inside (λ near. first inside near); start = visit_finds s z inside }

  -- one turn of the loop
  pub gone_on : {done p : ℕ} {f : Finds} → Flooding done f → At (found_in f) done p →
      Flooding (done + 1) (visit_each (g.near z) (neighbours g.width g.height g.joining p) f)
  gone_on {done} {p} {f} s a = record {
    spread = pixel_done s.spread a;
    start = λ near. let k = s.start near in (k.0, keeps_all s.spread a k.1);
  }

  module _ {done : ℕ} {f : Finds} (s : Flooding done f) (all : f.count ≤ done) where
    -- each chain stays within what is found
    reached : {p : ℕ} → Weak (among_free m g) z p → In (found_in f) p
    reached (first in_tile near) = s.start near
    reached (next w j in_tile near) =
        let k = reached w in
        let early = at_bound k.1 in
        s.spread.closed (omega (arith, found_length s.spread)) k.1 j in_tile near

    lists_free : Lists (Weak (among_free m g) z) (found_in f)
    lists_free = record { sound = s.spread.sound; complete = reached; once = fresh_once s.spread.fresh }

    queue_long : f.count ≤ length f.queue
    queue_long = let r = s.spread.room.free_left in let k = s.spread.room.queue_serves in omega arith

    pub spread_out : SpreadOut g z m queue f
    spread_out = record {
      flooded = record {
        within = queue_long;
        listed = λ clear. lists_same (λ p. free_weak g m z) (λ p. weak_free g m z clear) lists_free;
        listed_among_free = lists_free;
        rest = s.spread.rest;
      };
      pixels_served = λ i early.
          let inside = weak_inside (s.spread.sound (at_head f.queue f.count i 0 early queue_long)) in
          let serves = s.spread.room.marks_serve in
          omega arith;
      marks_back = ap (λ x. unmark_all x (found_in f)) s.spread.marks_are ∙ all_back s.spread.fresh;
    }
