-- The loop of a flood, with a map and a criterion's judgement. Assumes nothing.
use Rattle.std.proofs.Common.{◌≡◌, ℕ, ◌+◌, ◌<◌, ◌≤◌, List, length, get_or, sym, ap, ◌∙◌, subst, arith}
use Rattle.criteria.specs.Criteria.{Judgement}
use Rattle.morphology.specs.Pictures.{At}
use Rattle.morphology.proofs.Tables.{weak_inside}
use Rattle.maps.specs.declared.map.Map.{Map}
use Rattle.maps.specs.Joinings.{number_of}
use Rattle.maps.specs.Windows.{pixels_of}
use Rattle.maps.specs.Grounds.{near_at, ground}
use Rattle.maps.proofs.Nearness.{near_by, near_is}
use Rattle.neighbourhoods.specs.Marks.{served}
use Rattle.neighbourhoods.specs.Steps.{neighbours}
use Rattle.neighbourhoods.specs.Finds.{Finds, visited, expanded, near_centre, Room}
use Rattle.neighbourhoods.specs.Floods.{SpreadOut}
use Rattle.neighbourhoods.proofs.Listing.{at_head}
use Rattle.neighbourhoods.proofs.Visiting.{visit_each_same}
use Rattle.neighbourhoods.proofs.Spreading.{Flooding, begun, gone_on, spread_out}

-- what the loop may rely on
pub record Underway (n : ℕ) (done : ℕ) (f : Finds) : Type 0 where
  pub room : Room n f
  pub count_fits : f.count ≤ n
  pub queued : done < f.count → done < length f.queue
  pub pixel_inside : done < f.count → get_or f.queue done 0 < n

-- the loop keeps what lets it go on, and is the flood that began
pub record Looping {V : Type 0} (j : Judgement V) (map : Map V) (z : ℕ) (start : Finds) (done : ℕ) (f : Finds) : Type 0 where
  pub safe : Underway (pixels_of map) done f
  pub flooding : (marks queue : List ℕ) → Flooding (ground j map) z marks queue 0 start → Flooding (ground j map) z marks queue done f

module _ {V : Type 0} (j : Judgement V) (map : Map V) (z : ℕ) {centre : V} (read : At map.values.now z centre) where
  pub started : (marks queue : List ℕ) → z < pixels_of map → pixels_of map ≤ served (length marks) → pixels_of map ≤ length queue →
      {f : Finds} → f ≡ visited (j.near centre centre) z (record { marks = marks; queue = queue; count = 0 }) →
      Flooding (ground j map) z marks queue 0 f
  started marks queue inside serves holds visit =
      subst (Flooding (ground j map) z marks queue 0)
      (ap (λ b. visited b z (record { marks = marks; queue = queue; count = 0 })) (near_is j read read) ∙ sym visit)
      (begun (ground j map) z marks queue inside serves holds)

  module _ {marks queue : List ℕ} {done : ℕ} {f : Finds} (s : Flooding (ground j map) z marks queue done f) where
    pub underway : Underway (pixels_of map) done f
    underway =
        let room = s.spread.room in
        let left = room.free_left in
        let serves = room.queue_serves in
        record {
          room = room;
          count_fits = omega arith;
          queued = λ early. omega arith;
          pixel_inside = λ early. weak_inside (s.spread.sound (at_head f.queue f.count done 0 early (omega arith)));
        }

    pub turned : done < f.count → {f' : Finds} → f' ≡ expanded j map centre (get_or f.queue done 0) f →
        Flooding (ground j map) z marks queue (done + 1) f'
    turned early expansion =
        let p = get_or f.queue done 0 in
        let around = neighbours map.tile.width map.tile.height (number_of map.tile.joining) p in
        let fits = underway.count_fits in
        let serves = s.spread.room.queue_serves in
        subst (Flooding (ground j map) z marks queue (done + 1))
        (visit_each_same (near_at j map.values.now z) (near_centre j map centre) (λ y. near_by j y read) around f ∙ sym expansion)
        (gone_on (ground j map) z marks queue s (at_head f.queue f.count done 0 early (omega arith)))

  module _ {start : Finds} {marks queue : List ℕ} (s : Flooding (ground j map) z marks queue 0 start) where
    pub loop_starts : Looping j map z start 0 start
    loop_starts = record { safe = underway s; flooding = λ m q t. t }

    pub loop_turns : {done : ℕ} {f f' : Finds} → Looping j map z start done f → done < f.count → f' ≡ expanded j map centre (get_or f.queue done 0) f →
        Looping j map z start (done + 1) f'
    loop_turns l early expansion = record {
      safe = underway (turned (l.flooding marks queue s) early expansion);
      flooding = λ m q t. turned (l.flooding m q t) early expansion;
    }

    pub loop_ends : {done : ℕ} {f : Finds} → Looping j map z start done f → f.count ≤ done → SpreadOut (ground j map) z marks queue f
    loop_ends l all = spread_out (ground j map) z marks queue (l.flooding marks queue s) all
