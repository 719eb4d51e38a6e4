use Rattle.std.proofs.Common.{◌≡◌, ℕ, ◌+◌, ◌-◌, ◌++◌, min, true, false, nat_lt, List, [], ◌∷◌, drop, get_or, append_assoc, arith, sym, ap, ◌∙◌}
use Rattle.std.proofs.lemmas.Bool.Decides.{nat_tests}
use Rattle.cull_base.specs.declared.scene_types.Object.{Object}
use Rattle.cull_base.specs.declared.scene_types.Object.TheVariants.{Mesh}
use Rattle.group_query.specs.Grouping.{boxes_at_front, group, groups_from, is_box}
use Rattle.group_query.specs.declared.grouping.Group.{Group}
use Rattle.group_query.proofs.BoxRuns.{group_begins, group_ends, group_takes}
use Rattle.group_query.proofs.grouping.add_object.Goals as goal

pub returns-then-not-is_box_at : goal.returns-then-not-is_box_at
returns-then-not-is_box_at c =
    let os = c.args.objects.now in let place = c.args.place in
    let no : is_box (get_or os place (Mesh 0 0)) ≡ false = sym (c.is_box_at.ensures (Mesh 0 0)) ∙ c.if-not-is_box_at.true in
    ap (λ (gs : List Group). c.args.groups.now.items ++ gs) (sym (group_ends c.args.most place c.args.left os (Mesh 0 0) c.requires.place no))

pub returns-then-left-gt0 : goal.returns-then-left-gt0
returns-then-left-gt0 c =
    let os = c.args.objects.now in let place = c.args.place in let left = c.args.left in
    let yes : is_box (get_or os place (Mesh 0 0)) ≡ true = sym (c.is_box_at.ensures (Mesh 0 0)) ∙ c.if-not-is_box_at.false in
    let some : nat_lt 0 left ≡ true = grind (arith, nat_tests) in
    ap (λ (gs : List Group). c.args.groups.now.items ++ gs) (sym (group_takes c.args.most place left os (Mesh 0 0) c.requires.place yes some))

pub returns : goal.returns
returns c =
    let os = c.args.objects.now in let place = c.args.place in let left = c.args.left in let most = c.args.most in
    let yes : is_box (get_or os place (Mesh 0 0)) ≡ true = sym (c.is_box_at.ensures (Mesh 0 0)) ∙ c.if-not-is_box_at.false in
    let none : nat_lt 0 left ≡ false = grind (arith, nat_tests) in
    let old = c.args.groups.now.items in
    let rest = groups_from most (place + 1) (most - 1) (drop (place + 1) os) in
    let count : c.boxes_at_front-count.result ≡ min most (boxes_at_front (drop place os)) = c.boxes_at_front-count.ensures ∙ ap (λ (xs : List Object). min most (boxes_at_front xs)) c.objects_from.ensures in
    ap (λ (gs : List Group). gs ++ rest) c.in_ok-push.ensures.items ∙ append_assoc old (group place c.boxes_at_front-count.result ∷ []) rest
    ∙ ap (λ (n : ℕ). old ++ (group place n ∷ rest)) count
    ∙ ap (λ (gs : List Group). old ++ gs) (sym (group_begins most place left os (Mesh 0 0) c.requires.place yes none))
