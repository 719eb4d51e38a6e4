use Rattle.std.proofs.Common.{◌≡◌, ◌-◌, ◌<◌, List, Some, length, vec_len, get_or, arith, sym, subst, ◌∙◌}
use Rattle.std.proofs.lemmas.List.Elements.{All-take}
use Rattle.frame_reports.specs.Windows.{HasPlaces, HavePlaces}
use Rattle.frame_reports.specs.declared.frame_pool.Room.{Room}
use Rattle.frame_reports.proofs.frame_pool.last_room.Goals as goal

pub returns-clause-room : goal.returns-clause-room
returns-clause-room c =
    let rooms = c.args.rooms.now.items in
    let last = vec_len c.args.rooms.now - 1 in
    let room = c.unwrap.result in
    let lt : last < length rooms = omega (arith, c.args.rooms.now.ok.0, c.requires.some) in
    let both : Some room ≡ Some (get_or rooms last room) = sym c.unwrap.ensures ∙ c.pop.ensures.value room (omega (arith, c.requires.some)) in
    let is : room ≡ get_or rooms last room = cc in
    subst (HasPlaces c.args._scene.now) (sym is) (c.requires.places last room lt)

pub returns-clause-places : goal.returns-clause-places
returns-clause-places c =
    subst (λ (xs : List Room). HavePlaces c.args._scene.now xs) (sym c.pop.ensures.rest) (All-take (HasPlaces c.args._scene.now) (vec_len c.args.rooms.now - 1) c.args.rooms.now.items c.requires.places)
