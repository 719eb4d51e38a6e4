use Rattle.std.proofs.Common.{◌≡◌, true, get_or, below_more, ap, sym, ◌∙◌}
use Rattle.std.proofs.lemmas.List.{get_or_default}
use Rattle.cull_base.specs.Rectangle.{meets}
use Rattle.binning.specs.Rooms.{RoomOf}
use Rattle.binning.proofs.around.rect_around.Goals as goal

pub loop-room-preserved : goal.loop-room-preserved
loop-room-preserved c = λ j r box lt h.
    let rooms = c.args.rooms.now in
    let k = c.loop-room.room-index in
    let both = c.around_both-around in
    let here : get_or rooms k r ≡ c.room-item.result = sym (c.room-item.is ∙ get_or_default rooms k c.room-item.result r c.loop-room-test.true) in
    below_more (λ i. meets box (get_or rooms i r).rect ≡ true → meets box both.result ≡ true) k
    (λ i u m. both.ensures.first box (c.loop-room.invariant i r box u m))
    (λ m. both.ensures.second box (ap (meets box) c.rect.ensures ∙ sym (ap (λ (x : RoomOf). meets box x.rect) here) ∙ m))
    j lt h
