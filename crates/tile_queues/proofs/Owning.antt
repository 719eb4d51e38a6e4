-- Which bins are a worker's.
use Rattle.std.proofs.Common.{◌≡◌, ℕ, ◌+◌, ◌*◌, ◌/◌, ◌%◌, ◌<◌, ◌≤◌, arith}
use Rattle.std.proofs.Math.Nat.{le-div_iff_mul-le}
use Rattle.std.proofs.lemmas.Nat.{div-add-mod', mod_below}
use Rattle.tile_queues.specs.Shares.{bins_owned}

more : (j workers : ℕ) → (j + 1) * workers ≡ j * workers + workers
more j workers = omega arith

-- each bin of the screen is one of the worker to which it belongs
pub belongs : (bins workers bin : ℕ) → 0 < workers → bin < bins → bin / workers < bins_owned bins workers (bin % workers)
belongs bins workers bin some lt =
    let is = div-add-mod' bin workers in
    let below = mod_below bin workers some in
    let le : bin / workers + 1 ≤ bins_owned bins workers (bin % workers) = (le-div_iff_mul-le some).1 (omega (arith, is, below, lt, more (bin / workers) workers)) in
    omega (arith, le)
