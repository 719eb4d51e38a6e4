use Rattle.std.proofs.Common.{◌≡◌, ◌+◌, ◌<◌, List, [], ◌∷◌, ◌++◌, length, set, take, arith, ap, ◌∙◌, sym, subst}
use Rattle.std.proofs.lemmas.List.{length-take-le, take_all, take_more}
use Rattle.cull_base.specs.Piece.{Piece}
use Rattle.maskcull_c.specs.Pieces.{AreListed}
use Rattle.maskcull_c.proofs.Listed.{listed_none, listed_one, listed_then}
use Rattle.maskcull_c.proofs.float_set_up.put_fan.Goals as goal

pub loop-k-init : goal.loop-k-init
loop-k-init c = let room = c.requires in listed_none c.args.at c.args.rooms.now (omega (arith, room))

pub loop-k-preserved : goal.loop-k-preserved
loop-k-preserved c =
    let at = c.args.at in
    let all = c.args.pieces.now in
    let k = c.loop-k.k in
    let rooms = c.loop-k.rooms in
    let inv = c.loop-k.invariant in
    let x = c.get.result in
    let now = set rooms (at + k) c.of.result in
    let room = c.requires in
    let same = inv.whole in
    let lt : k < length all = omega (arith, c.loop-k-test.true, c.len-k-end.ensures.value) in
    let more : take k all ++ x ∷ [] ≡ take (k + 1) all = ap (λ y. take k all ++ y ∷ []) c.get.ensures ∙ sym (take_more all k x lt) in
    let long : length (take k all) ≡ k = length-take-le k all (omega (arith, lt)) in
    let one = listed_one (at + k) x c.of.result rooms (omega (arith, lt, room, same)) c.of.ensures.value c.of.ensures.valid in
    let placed = subst (λ n. AreListed (at + n) (x ∷ []) rooms now) (sym long) one in
    subst (λ (ps : List Piece). AreListed at ps c.args.rooms.now now) more (listed_then at (take k all) (x ∷ []) c.args.rooms.now rooms now inv placed)

pub returns-clause-listed : goal.returns-clause-listed
returns-clause-listed c =
    let all = c.args.pieces.now in
    let whole = take_all c.loop-k.k all (omega (arith, c.loop-k-test.false, c.len-k-end.ensures.value)) in
    subst (λ (ps : List Piece). AreListed c.args.at ps c.args.rooms.now c.loop-k.rooms) whole c.loop-k.invariant
