use Rattle.std.proofs.Common.{◌≡◌, ◌<◌, [], length, get_or, arith, sym, subst}
use Rattle.std.proofs.lemmas.Bool.{eqb-true}
use Rattle.std.proofs.lemmas.Bool.Decides.{nat_tests}
use Rattle.std.proofs.lemmas.List.{get_or_default}
use Rattle.cull_base.specs.Piece.{Piece}
use Rattle.cull_base.specs.Screen.{Dimensions}
use Rattle.cull_base.specs.Span.{IsSpan}
use Rattle.live_check.proofs.Advance.{moved_more, moved_none, moved_past, moved_there}
use Rattle.live_check.proofs.tiles.Tiles.advance.Goals as goal

pub loop-index-init : goal.loop-index-init
loop-index-init c =
    let list = c.args.list.now.list in
    let len : c.len-len.result ≡ length list.members = c.len-len.ensures.value in
    moved_none list c.args.span.now c.first_place-from.result c.args.self.now c.requires.standing c.requires.rise (omega (arith, c.first_place-from.ensures.most, len))
    (λ t inside short before. c.first_place-from.ensures.least t inside short (omega (arith, before, len)))

pub short_in-short-requires-then-short-eq0 : goal.short_in-short-requires-then-short-eq0
short_in-short-requires-then-short-eq0 c = subst (λ (d : Dimensions). IsSpan d c.args.span.now) (sym c.loop-index.invariant.size) c.requires.span

-- none is short before the list's end
pub returns-then-short-eq0-2-clause-moved : goal.returns-then-short-eq0-2-clause-moved
returns-then-short-eq0-2-clause-moved c _ =
    moved_there c.args.list.now.list c.args.span.now c.loop-index.index c.len-len.result c.args.self.now c.loop-index.self c.len-len.ensures.value c.loop-index.invariant (c.short_in-short-then-short-eq0.ensures.none c.if-short-eq0-2.true)

pub returns-then-short-eq0-2-clause-standing : goal.returns-then-short-eq0-2-clause-standing
returns-then-short-eq0-2-clause-standing c = c.loop-index.invariant.standing

pub take_member-requires : goal.take_member-requires
take_member-requires c = record {
  index = omega (arith, c.loop-index-test.true, c.len-len.ensures.value);
  span = subst (λ (d : Dimensions). IsSpan d c.args.span.now) (sym c.loop-index.invariant.size) c.requires.span;
  standing = c.loop-index.invariant.standing;
}

-- what stands past a list's end, where nothing is read
some_piece : Piece
some_piece = record { xs = []; ys = []; qs = [] }

-- the next member
pub loop-index-preserved : goal.loop-index-preserved
loop-index-preserved c =
    let list = c.args.list.now.list in
    let lt : c.loop-index.index < length list.members = omega (arith, c.loop-index-test.true, c.len-len.ensures.value) in
    let x = get_or list.members c.loop-index.index some_piece in
    let is : get_or list.members c.loop-index.index x ≡ x = get_or_default list.members c.loop-index.index x some_piece lt in
    moved_more list c.args.span.now c.loop-index.index c.args.self.now c.loop-index.self c.take_member.new.self x c.loop-index.invariant lt is (c.take_member.ensures.took x is)

pub short_in-requires : goal.short_in-requires
short_in-requires c = subst (λ (d : Dimensions). IsSpan d c.args.span.now) (sym c.loop-index.invariant.size) c.requires.span

pub returns-clause-moved : goal.returns-clause-moved
returns-clause-moved c none =
    moved_there c.args.list.now.list c.args.span.now c.loop-index.index c.len-len.result c.args.self.now c.loop-index.self c.len-len.ensures.value c.loop-index.invariant (c.short_in.ensures.none (eqb-true c.short_in.result 0 none))

pub returns-clause-past : goal.returns-clause-past
returns-clause-past c some =
    let short : 0 < c.short_in.result = grind (arith, nat_tests) in
    let (t, within, is) = c.short_in.ensures.some short in
    let end : c.loop-index.index ≡ c.len-len.result = omega (arith, c.loop-index-test.false, c.loop-index.auto.index-end, c.first_place-from.ensures.most) in
    let past = moved_past c.args.list.now.list c.args.span.now c.loop-index.index c.len-len.result t c.args.self.now c.loop-index.self c.len-len.ensures.value end c.loop-index.invariant within is in
    (t, past.0, past.1)

pub returns-clause-standing : goal.returns-clause-standing
returns-clause-standing c = c.loop-index.invariant.standing
