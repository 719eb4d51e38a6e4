use Rattle.std.proofs.Common.{◌∙◌, sym, refl, arith, pos, get_or, map, List}
use Rattle.std.proofs.lemmas.List.{take_all, at_drop_more}
use Rattle.std.proofs.lemmas.List.Elements.{All-more, All-same}
use Rattle.cull_base.specs.declared.scene_types.Object.{Object}
use Rattle.cull_base.specs.declared.scene_types.Object.TheVariants.{Area}
use Rattle.scene_reader.specs.Fault.{first_among, object_fault}
use Rattle.scene_reader.specs.Layout.{IsObject, raw_object}
use Rattle.scene_reader.proofs.Headers.{or_second}
use Rattle.scene_reader.proofs.NoFault.{fine_object}
use Rattle.scene_reader.proofs.checks.objects_fault.Goals as goal

pub loop-i-preserved : goal.loop-i-preserved
loop-i-preserved c =
    let objects = c.args.objects.now in
    let m = c.args.object_tris in
    let i = c.loop-i.i in
    let lt = c.loop-i-test.true in
    let none : Object = Area (record { x0 = pos 0; y0 = pos 0; x1 = pos 0; y1 = pos 0 }) (pos 0) in
    let clear = fine_object m i (get_or objects i none) (sym c.if-is_bad_object.ensures.value) in
    record {
      rest = sym (at_drop_more (λ (xs : List Object). first_among (object_fault m) i (map raw_object xs)) objects i none lt ∙ or_second (object_fault m i (raw_object (get_or objects i none))) _ clear) ∙ c.loop-i.invariant.rest;
      valid = All-more (IsObject m) objects i none lt c.loop-i.invariant.valid (c.if-is_bad_object.ensures.valid refl);
    }

pub returns-clause-valid : goal.returns-clause-valid
returns-clause-valid c = λ _. All-same (IsObject c.args.object_tris) _ _ (sym (take_all c.loop-i.i c.args.objects.now (omega arith))) c.loop-i.invariant.valid
