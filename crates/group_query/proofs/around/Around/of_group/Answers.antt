use Rattle.std.proofs.Common.{◌≡◌, ℕ, ◌+◌, ◌<◌, List, length, get_or, arith, sym, ap, ◌∙◌, subst, inl, inr}
use Rattle.std.proofs.lemmas.Bool.{cases_lt}
use Rattle.std.proofs.lemmas.List.{get_or_default}
use Rattle.cull_base.specs.declared.scene_types.Object.{Object}
use Rattle.cull_base.specs.declared.scene_types.Object.TheVariants.{Block, Mesh}
use Rattle.scene_reader.specs.Layout.{IsObject}
use Rattle.group_query.specs.Around.{IsBoxInside}
use Rattle.group_query.specs.declared.around.Around.{Around}
use Rattle.group_query.proofs.BoxesAround.{new_boxed, still_boxed}
use Rattle.group_query.proofs.around.Around.of_group.Goals as goal

pub loop-k-preserved : goal.loop-k-preserved
loop-k-preserved c =
    let s = c.args.scene.now in
    let first = c.args.group.first in let n = c.loop-k.k in
    let a = c.loop-k.around in let low = c.in-Block.low in let high = c.in-Block.high in
    let lt : first + n < length s.objects = omega (arith, c.loop-k-test.true, c.requires) in
    let at : (o : Object) → get_or s.objects (first + n) o ≡ Block low high = λ o.
    get_or_default s.objects (first + n) o _ lt ∙ ap (λ (os : List Object). get_or os (first + n) _) (sym c.objects-objects.ensures) ∙ c.in-Block.is in
    let object : IsObject (length s.object_tris) (Block low high) = subst (IsObject (length s.object_tris)) (at (Mesh 0 0)) (c.near-near.ensures.valid.objects (first + n) (Mesh 0 0) lt) in
    let value = c.with-around.ensures.value in
    record {
      low = c.with-around.ensures.low;
      high = c.with-around.ensures.high;
      boxes = λ k o below. elim (cases_lt k n) [
        | inl before ↦ subst (λ (b : Around). IsBoxInside b (get_or s.objects (first + k) o)) (sym value) (still_boxed a low high (get_or s.objects (first + k) o) (c.loop-k.invariant.boxes k o before))
        | inr past ↦ (
            let same : n ≡ k = omega (arith, below, past) in
            let own : get_or s.objects (first + k) o ≡ Block low high = ap (λ (m : ℕ). get_or s.objects (first + m) o) (sym same) ∙ at o in
            subst (λ (b : Around). IsBoxInside b (get_or s.objects (first + k) o)) (sym value)
            (subst (IsBoxInside _) (sym own) (new_boxed a low high (length s.object_tris) object)))
      ];
    }
