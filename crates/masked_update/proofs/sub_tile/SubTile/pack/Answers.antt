use Rattle.std.proofs.Common.{◌≡◌, rules}
use Rattle.masked_update.proofs.Packed.{pack_is, is_subtile}
use Rattle.masked_update.proofs.sub_tile.SubTile.pack.Goals as goal

pub returns-clause-value : goal.returns-clause-value
returns-clause-value c =
    let a : c.from.result ≡ c.reference.result = search rules in
    let b : c.from-2.result ≡ c.working.result = search rules in
    rw (a, b) (pack_is c.reference.result c.working.result c.mask.result c.args.self.now c.reference.ensures.value c.working.ensures.value c.mask.ensures.value c.reference.ensures.within c.working.ensures.within c.mask.ensures.not_full)

pub returns-clause-possible : goal.returns-clause-possible
returns-clause-possible c =
    is_subtile c.reference.result c.working.result c.mask.result c.args.self.now c.reference.ensures.value c.working.ensures.value c.mask.ensures.value c.reference.ensures.within c.working.ensures.within c.mask.ensures.not_full c.mask.ensures.layered
