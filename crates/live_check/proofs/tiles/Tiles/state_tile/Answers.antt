use Rattle.std.proofs.Common.{◌≡◌, length-set, set, arith, refl, ap, ◌∙◌, subst}
use Rattle.masked_update.specs.TileOf.{TileOf}
use Rattle.live_check.specs.Standing.{TilesOf, count_at}
use Rattle.live_check.specs.Waiting.{Came, NeverComes}
use Rattle.live_check.proofs.Stating.{is_stated_of, not_count, not_head, not_number, state_read}
use Rattle.live_check.proofs.tiles.Tiles.state_tile.Goals as goal

-- no head comes
pub returns-then-not-branch-clause-no : goal.returns-then-not-branch-clause-no
returns-then-not-branch-clause-no g c _ = not_head _ c.args.tile c.args.self.now (subst (NeverComes _) (c.as_slice.ensures ∙ c.field_of.ensures) (c.in_ok-takes_text.ensures.other c.if-not-branch.true))

-- no number comes
pub returns-in_default-clause-no : goal.returns-in_default-clause-no
returns-in_default-clause-no g c _ =
    not_number _ _ c.args.tile c.args.self.now (subst (Came _ _) (c.as_slice.ensures ∙ c.field_of.ensures) (c.in_ok-takes_text.ensures.came c.if-not-branch.false)) (rw c.in_default.is at c.in_ok-count.ensures.only)

-- the number is below the tile's own
pub returns-then-count-own-clause-no : goal.returns-then-count-own-clause-no
returns-then-count-own-clause-no g c _ =
    let read = state_read c.self.inside.states.items c.args.tile c.args.tile c.index.result.now c.self.inside.size c.args.self.now c.self.view_is c.self.invariant.states refl c.requires c.index.ensures in
    let own : c.count-own.result ≡ count_at c.args.self.now c.args.tile = c.count-own.ensures ∙ ap (λ (x : TileOf). x.count) read in
    not_count _ _ c.args.tile c.in-Some.count c.args.self.now (subst (Came _ _) (c.as_slice.ensures ∙ c.field_of.ensures) (c.in_ok-takes_text.ensures.came c.if-not-branch.false))
    (rw c.in-Some.is at c.in_ok-count.ensures.only) (omega (arith, c.if-count-own.true, own))

pub returns-clause-yes : goal.returns-clause-yes
returns-clause-yes g c _ =
    let read = state_read c.self.inside.states.items c.args.tile c.args.tile c.index.result.now c.self.inside.size c.args.self.now c.self.view_is c.self.invariant.states refl c.requires c.index.ensures in
    let own : c.count-own.result ≡ count_at c.args.self.now c.args.tile = c.count-own.ensures ∙ ap (λ (x : TileOf). x.count) read in
    is_stated_of _ _ _ c.args.tile c.in-Some.count c.args.self.now _ (subst (Came _ _) (c.as_slice.ensures ∙ c.field_of.ensures) (c.in_ok-takes_text.ensures.came c.if-not-branch.false))
    (rw c.in-Some.is at c.in_ok-count.ensures.came) (rw c.in-Some.is at c.in_ok-count.ensures.only) (rw c.in-Some.is at c.in_ok-count.ensures.small)
    (omega (arith, c.if-count-own.false, own)) (ap (λ (x : TilesOf). set x.stated c.args.tile c.in-Some.count) c.self.view_is)

pub returns-clause-stays : goal.returns-clause-stays
returns-clause-stays g c = let v = c.self.view_is in record { size = ap (λ (x : TilesOf). x.size) v; states = ap (λ (x : TilesOf). x.states) v; behind = ap (λ (x : TilesOf). x.behind) v }

pub invariant_of-self : goal.invariant_of-self
invariant_of-self g c =
    let i = c.self.invariant in record { states = i.states; behind = i.behind; stated = length-set c.self.inside.stated.items c.args.tile c.in-Some.count ∙ i.stated }

pub returns-clause-whole : goal.returns-clause-whole
returns-clause-whole g c =
    let i = c.self.invariant in record { states = i.states; behind = i.behind; stated = length-set c.self.inside.stated.items c.args.tile c.in-Some.count ∙ i.stated }
