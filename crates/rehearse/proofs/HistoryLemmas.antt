-- What a history keeps.
use Rattle.std.proofs.Common.{◌≡◌, ℕ, Bool, List, [], ◌∷◌, ◌++◌, reverse, length, take, refl, sym, ap, ◌∙◌, subst}
use Rattle.std.proofs.lemmas.List.{reverse-append}
use Rattle.std.proofs.Math.Seq.{take-append_seam, take-length}
use Rattle.group_tree.specs.declared.ids.HostId.{HostId}
use Rattle.rehearse.specs.Stacks.{RehearsalView, cut_to}
use Rattle.rehearse.specs.Histories.{HistoryView, Place, back_at, led_on, undone}
use Rattle.rehearse.specs.GoingOn.{marking, rehearsal_at}
use Rattle.rehearse.specs.Points.{place_at, places_before}
use Rattle.rehearse.specs.declared.point.Point.{Point}
use Rattle.rehearse.proofs.GoingOnLemmas.{IsGrown, cut_grown, cut_same}

-- a history by what keeps it
abbrev pub history_of : Place → List Point → Bool → HistoryView
history_of place points refused = record { place = place; earlier = places_before place (reverse points); refused = refused }

last_first : (points : List Point) (point : Point) → reverse (points ++ point ∷ []) ≡ point ∷ reverse points
last_first points point = reverse-append points (point ∷ [])

-- a command led on from a point
pub has_led_on : (old new : Place) (points : List Point) (point : Point) (refused : Bool) → place_at point new ≡ old
    → history_of new (points ++ point ∷ []) refused ≡ led_on new (history_of old points refused)
has_led_on old new points point refused back =
    let earlier : places_before new (reverse (points ++ point ∷ [])) ≡ old ∷ places_before old (reverse points) =
    ap (places_before new) (last_first points point) ∙ ap (λ (p : Place). p ∷ places_before p (reverse points)) back in
    ap (λ (l : List Place). let h : HistoryView = record { place = new; earlier = l; refused = refused } in h) earlier

-- the last point is gone back to
pub is_back : (place : Place) (points : List Point) (point : Point) (refused : Bool)
    → history_of (place_at point place) points refused ≡ undone (history_of place (points ++ point ∷ []) refused)
is_back place points point refused =
    sym (ap (λ (l : List Place). back_at (let h : HistoryView = record { place = place; earlier = l; refused = refused } in h) l) (ap (places_before place) (last_first points point)))

module _ (old : HistoryView) (rehearsal : RehearsalView) (marked : List HostId) (points : List Point) (point : Point) (refused : Bool)
    (view_is : history_of (record { rehearsal = rehearsal; marked = marked }) points refused ≡ old) (stages : point.stages ≡ length old.place.rehearsal.above) (marks : point.marks ≡ length old.place.marked)
    (points_new : List Point) (grown : points_new ≡ points ++ point ∷ []) where
  stages_are : point.stages ≡ length rehearsal.above
  stages_are = stages ∙ sym (ap (λ (h : HistoryView). length h.place.rehearsal.above) view_is)

  marks_are : point.marks ≡ length marked
  marks_are = marks ∙ sym (ap (λ (h : HistoryView). length h.place.marked) view_is)

  pub led_to_rehearsal : (new : RehearsalView) → IsGrown rehearsal new
      → history_of (record { rehearsal = new; marked = marked }) points_new refused ≡ rehearsal_at new old
  led_to_rehearsal new more =
      let back : place_at point (record { rehearsal = new; marked = marked }) ≡ record { rehearsal = rehearsal; marked = marked } =
      ap (λ (r : RehearsalView). let p : Place = record { rehearsal = r; marked = take point.marks marked } in p)
      (ap (λ n. cut_to n new) stages_are ∙ cut_grown rehearsal new more)
      ∙ ap (λ (l : List HostId). let p : Place = record { rehearsal = rehearsal; marked = l } in p) (ap (λ n. take n marked) marks_are ∙ take-length marked) in
      ap (λ (l : List Point). history_of (record { rehearsal = new; marked = marked }) l refused) grown
      ∙ has_led_on (record { rehearsal = rehearsal; marked = marked }) (record { rehearsal = new; marked = marked }) points point refused back
      ∙ ap (λ (h : HistoryView). rehearsal_at new h) view_is

  pub led_to_mark : (host : HostId) → history_of (record { rehearsal = rehearsal; marked = marked ++ host ∷ [] }) points_new refused ≡ marking host old
  led_to_mark host =
      let back : place_at point (record { rehearsal = rehearsal; marked = marked ++ host ∷ [] }) ≡ record { rehearsal = rehearsal; marked = marked } =
      ap (λ (r : RehearsalView). let p : Place = record { rehearsal = r; marked = take point.marks (marked ++ host ∷ []) } in p)
      (ap (λ n. cut_to n rehearsal) stages_are ∙ cut_same rehearsal)
      ∙ ap (λ (l : List HostId). let p : Place = record { rehearsal = rehearsal; marked = l } in p)
      (ap (λ n. take n (marked ++ host ∷ [])) marks_are ∙ take-append_seam marked (host ∷ [])) in
      ap (λ (l : List Point). history_of (record { rehearsal = rehearsal; marked = marked ++ host ∷ [] }) l refused) grown
      ∙ has_led_on (record { rehearsal = rehearsal; marked = marked }) (record { rehearsal = rehearsal; marked = marked ++ host ∷ [] }) points point refused back
      ∙ ap (marking host) view_is
