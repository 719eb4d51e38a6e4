use Rattle.std.proofs.Common.{◌≡◌, ◌∙◌, sym, ap, arith, ℕ, ℤ, List, take, drop, length}
use Rattle.std.specs.Prelude.{slice_index}
use Rattle.std.proofs.lemmas.List.{take_all, length-drop}
use Rattle.std.proofs.lemmas.Option.{MatchOption-at_none}
use Rattle.scene_reader.specs.Fault.{raw_of, row_of, is_bad_object}
use Rattle.scene_reader.proofs.ObjectTable.{made_fine, made_bad, never_made}
use Rattle.scene_reader.proofs.objects.object_at.Goals as goal

numbers_whole : (entry : List ℕ) → length entry ≡ 25 → row_of 6 (take 24 (drop 1 entry)) ≡ row_of 6 (drop 1 entry)
numbers_whole entry long = ap (row_of 6) (take_all 24 (drop 1 entry) (omega (arith, length-drop 1 entry, long)))

pub returns-in-Some-clause-value : goal.returns-in-Some-clause-value
returns-in-Some-clause-value c =
    let made = c.in-Some.ensures.made in
    let numbers = numbers_whole c.args.entry.now c.told-entry in
    made_fine c.args.object_tris c.args.i (raw_of c.args.entry.now) c.in-Some.object c.if-kind-gt-MESH.false (made.0, made.1 ∙ c.row_of-numbers.ensures ∙ numbers) c.if-not-is_bad_object.ensures.value

pub returns-in_default-clause-fault : goal.returns-in_default-clause-fault
returns-in_default-clause-fault c =
    let made = c.in-Some.ensures.made in
    let numbers = numbers_whole c.args.entry.now c.told-entry in
    made_bad c.args.object_tris c.args.i (raw_of c.args.entry.now) c.in-Some.object c.if-kind-gt-MESH.false (made.0, made.1 ∙ c.row_of-numbers.ensures ∙ numbers) c.if-not-is_bad_object.ensures.value

pub returns-in_default-2-clause-fault : goal.returns-in_default-2-clause-fault
returns-in_default-2-clause-fault c =
    let kind = slice_index c.args.entry.now 0 in
    let numbers = c.row_of-numbers.ensures ∙ numbers_whole c.args.entry.now c.told-entry in
    let refused = MatchOption-at_none _ _ c.in_default.is c.object_of.ensures.refused in
    never_made c.args.object_tris c.args.i (raw_of c.args.entry.now) c.if-kind-gt-MESH.false (sym (ap (λ (n : List ℤ). is_bad_object c.args.object_tris kind n) numbers) ∙ refused c.args.object_tris)
