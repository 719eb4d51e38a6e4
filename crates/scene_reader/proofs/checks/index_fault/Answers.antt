use Rattle.std.proofs.Common.{◌≡◌, ◌∙◌, sym, ap, Bool, false, get_or, [], arith}
use Rattle.std.specs.Prelude.{not, nat_lt}
use Rattle.std.specs.List.{list_any}
use Rattle.std.proofs.lemmas.List.{take_all}
use Rattle.std.proofs.lemmas.List.Elements.{All-more, All-same}
use Rattle.cull_base.specs.declared.scene_types.Tri.{Tri}
use Rattle.scene_reader.specs.declared.error.SceneError.TheVariants.{BadIndex}
use Rattle.scene_reader.specs.Layout.{IsTri}
use Rattle.scene_reader.specs.Fault.{index_fault, fault_if}
use Rattle.scene_reader.proofs.First.{first_step}
use Rattle.scene_reader.proofs.Valid.{indices_within}
use Rattle.scene_reader.proofs.checks.index_fault.Goals as goal

pub loop-i-preserved : goal.loop-i-preserved
loop-i-preserved c =
    let triangles = c.args.triangles.now in
    let n = c.args.vertices in
    let i = c.loop-i.i in
    let lt = c.loop-i-test.true in
    let none : Tri = record { 0 = [] } in
    let clear : list_any (λ v. not (nat_lt v n)) (get_or triangles i none).0 ≡ false = sym c.names_past.ensures.value ∙ c.if-names_past.false in
    record {
      rest = first_step (index_fault c.args.table n) triangles i none lt (ap (λ (b : Bool). fault_if b (BadIndex c.args.table i)) clear) ∙ c.loop-i.invariant.rest;
      valid = All-more (IsTri n) triangles i none lt c.loop-i.invariant.valid (c.names_past.ensures.three, indices_within n (get_or triangles i none).0 clear);
    }

pub returns-clause-valid : goal.returns-clause-valid
returns-clause-valid c = λ _. All-same (IsTri c.args.vertices) _ _ (sym (take_all c.loop-i.i c.args.triangles.now (omega arith))) c.loop-i.invariant.valid
