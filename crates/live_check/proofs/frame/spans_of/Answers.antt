use Rattle.std.proofs.Common.{◌≡◌, ℕ, get_or, set, get_or-set_other, get_or-set_same, length-set, arith, sym, ◌∙◌, subst, inl, inr}
use Rattle.std.proofs.lemmas.Bool.{cases_lt}
use Rattle.cull_base.specs.declared.rect.Rect.{Rect}
use Rattle.cull_base.specs.declared.scene_types.Object.{Object}
use Rattle.cull_base.specs.declared.scene_types.Object.TheVariants.{Mesh}
use Rattle.cull_base.specs.declared.tile_span.TileSpan.{TileSpan}
use Rattle.cull_base.specs.Screen.{Dimensions}
use Rattle.cull_base.specs.Span.{HasTilesOf, IsSpan}
use Rattle.cull_report.specs.Live.{object_at}
use Rattle.cull_report.specs.Scene.{object_area, size_of}
use Rattle.cull_report.proofs.Forms.{from_place}
use Rattle.live_check.proofs.frame.spans_of.Goals as goal

pub loop-object-preserved : goal.loop-object-preserved
loop-object-preserved c =
    let i = c.loop-object.invariant in
    let s = c.args.scene.now in let frame = c.args.frame in let n = c.loop-object.object in
    let lt = c.loop-object-test.true in
    let area = c.object_area-area.result in
    let is : area ≡ object_area s frame (object_at s n) = from_place (λ (x : Object). area ≡ object_area s frame x) s.objects n (Mesh 0 0) (omega (arith, lt, c.requires.within)) c.object_area-area.ensures in
    let span = c.of.result in
    let here : HasTilesOf span (size_of s) (object_area s frame (object_at s n)) × IsSpan (size_of s) span =
    subst (λ (a : Rect). HasTilesOf span (size_of s) a × IsSpan (size_of s) span) is
    (subst (λ (d : Dimensions). HasTilesOf span d area × IsSpan d span) c.size.ensures (c.of.ensures.tiles, c.of.ensures.span)) in
    record {
      whole = length-set c.loop-object.spans n span ∙ i.whole;
      spans = λ o d below. elim (cases_lt o n) [
        | inl before ↦
            subst (λ (x : TileSpan). HasTilesOf x (size_of s) (object_area s frame (object_at s o)) × IsSpan (size_of s) x) (sym (get_or-set_other c.loop-object.spans n o span d (λ e. omega (arith, e, before)))) (i.spans o d before)
        | inr from ↦
            let same : n ≡ o = omega (arith, from, below) in
            subst (λ (p : ℕ). HasTilesOf (get_or (set c.loop-object.spans n span) p d) (size_of s) (object_area s frame (object_at s p)) × IsSpan (size_of s) (get_or (set c.loop-object.spans n span) p d)) same
            (subst (λ (x : TileSpan). HasTilesOf x (size_of s) (object_area s frame (object_at s n)) × IsSpan (size_of s) x) (sym (get_or-set_same c.loop-object.spans n span d (omega (arith, i.whole, lt, c.requires.few)))) here)
      ];
    }
