-- A subtile's fields are given back by the state that it is seen as.
use Rattle.std.specs.Prelude.{◌≡◌, ◌<◌, ◌^◌}
use Rattle.std.proofs.Common.{ap, arith}
use Rattle.std.specs.Simd.Lanes.{mask_l}
use Rattle.cull_base.specs.State.{samples_of}
use Rattle.masked_update.specs.declared.sub_tile.SubTile.TheInside.{Inside}
use Rattle.masked_update.specs.SubTile.{Layers}
use Rattle.cull_base.proofs.Bits.{mask_l-samples_of}

pub fields_back : (s : Inside) → Layers s.reference s.working s.mask
    → record s { mask = mask_l (samples_of s.mask) } ≡ s
fields_back s h =
    let below : s.mask < 2 ^ 32 = omega (arith, h.not_full) in
    ap (λ m. record s { mask = m }) (mask_l-samples_of s.mask below)
