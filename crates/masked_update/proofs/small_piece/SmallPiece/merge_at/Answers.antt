use Rattle.std.proofs.Common.{◌≡◌, ◌∙◌, ℕ, List, ap, arith, false, inl, inr, nat_eq, not, refl, subst, sym, slice_index_or, slice_set}
use Rattle.std.proofs.lemmas.Bool.{cases_eq}
use Rattle.std.proofs.lemmas.Bool.Decides.{nat_tests}
use Rattle.std.proofs.lemmas.Grind.{get_or-set_at}
use Rattle.std.proofs.lemmas.List.{get_or-set_other, length-set}
use Rattle.cull_base.specs.Depth.{least_nearness, low_of}
use Rattle.cull_base.specs.Piece.{Piece, covered}
use Rattle.cull_base.specs.State.{State, empty_state, samples_of, step_with}
use Rattle.depth_plane.specs.Plane.{plane_of}
use Rattle.edge_lanes.specs.Inside.{sub_of}
use Rattle.masked_update.specs.Small.{IsMergedAt}
use Rattle.masked_update.proofs.Unchanged.{step_empty}
use Rattle.masked_update.proofs.small_piece.SmallPiece.merge_at.Goals as goal

pub returns-then-mask-eq0-clause-merged : goal.returns-then-mask-eq0-clause-merged
returns-then-mask-eq0-clause-merged c =
    let j = c.args.j in
    let u = sub_of c.args.place j in
    let x = c.args.self.now in
    let samples : samples_of c.mask-mask.result ≡ covered x u = c.mask-mask.ensures ∙ c.self.invariant.edges_cover c.subtile-here.result ∙ ap (λ (t : Piece). covered t c.subtile-here.result) c.self.view_is ∙ ap (covered x) c.subtile-here.ensures.value in
    record {
      eight = c.sub-sub.ensures.eight;
      this = sym (step_empty u (slice_index_or c.args.layers.now j empty_state) x c.mask-mask.result samples c.if-mask-eq0.true);
      others = λ i ne. refl;
    }

pub returns-clause-merged : goal.returns-clause-merged
returns-clause-merged c =
    let j = c.args.j in
    let u = sub_of c.args.place j in
    let x = c.args.self.now in
    let old = c.args.layers.now in
    let new = c.merge.new.self in
    let samples : samples_of c.mask-mask.result ≡ covered x u = c.mask-mask.ensures ∙ c.self.invariant.edges_cover c.subtile-here.result ∙ ap (λ (t : Piece). covered t c.subtile-here.result) c.self.view_is ∙ ap (covered x) c.subtile-here.ensures.value in
    let plane = c.self.invariant.plane_is ∙ ap (λ (t : Piece). plane_of t) c.self.view_is in
    let least = c.self.invariant.least_is ∙ ap (λ (t : Piece). least_nearness t) c.self.view_is in
    let low = c.bound-bound.ensures.low x plane least ∙ ap (low_of x) c.subtile-here.ensures.value in
    let stepped = c.merge.ensures.step ∙ ap (λ (s : State). step_with s c.bound-bound.result (samples_of c.mask-mask.result)) c.sub-sub.ensures.value
    ∙ ap (λ t. step_with (slice_index_or old j empty_state) t (samples_of c.mask-mask.result)) low ∙ ap (step_with (slice_index_or old j empty_state) (low_of x u)) samples in
    subst (λ (v : List State). IsMergedAt x c.args.place j old v) (sym c.put.ensures.value) (record {
      eight = length-set old j new ∙ c.put.ensures.eight;
      this = get_or-set_at old j j new empty_state refl (let lt = c.requires.j in let eight = c.put.ensures.eight in omega (arith, lt, eight)) ∙ stepped;
      others = λ i ne. get_or-set_other old j i new empty_state ne;
    })

pub returns-then-mask-eq0-clause-same : goal.returns-then-mask-eq0-clause-same
returns-then-mask-eq0-clause-same c e i = refl

-- what the test says
agree : (x y : ℕ) → not (nat_eq x y) ≡ false → x ≡ y
agree x y h = grind (arith, nat_tests, h)

pub returns-clause-same : goal.returns-clause-same
returns-clause-same c e i =
    let j = c.args.j in
    let old = c.args.layers.now in
    let new = c.merge.new.self in
    subst (λ (v : List State). (slice_index_or v i empty_state).reference ≡ (slice_index_or old i empty_state).reference) (sym c.put.ensures.value)
    (elim (cases_eq i j) [
      | inl at ↦
          subst (λ n. (slice_index_or (slice_set old j new) n empty_state).reference ≡ (slice_index_or old n empty_state).reference) (sym at)
          (ap (λ (s : State). s.reference) (get_or-set_at old j j new empty_state refl (let lt = c.requires.j in let eight = c.put.ensures.eight in omega (arith, lt, eight)))
          ∙ sym c.reference.ensures.value ∙ agree _ _ e ∙ c.reference-reference.ensures.value ∙ ap (λ (s : State). s.reference) c.sub-sub.ensures.value)
      | inr ne ↦ ap (λ (s : State). s.reference) (get_or-set_other old j i new empty_state ne)
    ])
