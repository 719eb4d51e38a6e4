use Rattle.std.proofs.Common.{sym, ap, ◌∙◌, subst, arith, w32, rules}
use Rattle.std.proofs.lemmas.Int.{to_z-of_z}
use mir.Val.{SFits}
use Rattle.cull_base.specs.declared.scene_types.Object.{Object}
use Rattle.scene_reader.specs.Layout.{IsObject, kind_of, numbers_of}
use Rattle.scene_reader.specs.Fault.{is_bad_object}
use Rattle.scene_reader.proofs.Valid.{area_valid, block_valid}
use Rattle.scene_reader.proofs.objects.is_bad_object.Goals as goal

pub returns-in-Area-clause-value : goal.returns-in-Area-clause-value
unfolding is_bad_object
returns-in-Area-clause-value c =
    let fits : SFits w32 c.in-Area.w = search rules in
    (simp to_z-of_z at c.is_bad_area.ensures) ∙ sym (ap (λ (o : Object). is_bad_object c.args.object_tris (kind_of o) (numbers_of o)) c.in-Area.is)

pub returns-in-Area-clause-valid : goal.returns-in-Area-clause-valid
unfolding is_bad_object
returns-in-Area-clause-valid c = λ e.
    let fits : SFits w32 c.in-Area.w = search rules in
    subst (λ (o : Object). IsObject c.args.object_tris o) (sym c.in-Area.is) (area_valid c.args.object_tris c.in-Area.rect c.in-Area.w (sym (simp to_z-of_z at c.is_bad_area.ensures) ∙ e))

pub returns-in-Block-clause-value : goal.returns-in-Block-clause-value
unfolding is_bad_object
returns-in-Block-clause-value c = c.is_bad_block.ensures.value ∙ sym (ap (λ (o : Object). is_bad_object c.args.object_tris (kind_of o) (numbers_of o)) c.in-Block.is)

pub returns-in-Block-clause-valid : goal.returns-in-Block-clause-valid
unfolding is_bad_object
returns-in-Block-clause-valid c = λ e. subst (λ (o : Object). IsObject c.args.object_tris o) (sym c.in-Block.is) (block_valid c.args.object_tris c.in-Block.low c.in-Block.high (omega arith) (omega arith) (sym c.is_bad_block.ensures.value ∙ e))
