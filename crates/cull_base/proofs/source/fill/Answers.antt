use Rattle.std.proofs.Common.{◌≡◌, ℕ, ◌+◌, ◌-◌, ◌≤◌, List, length, take, drop, arith, ◌∙◌}
use Rattle.std.proofs.lemmas.List.{length-take, length-drop}
use borrow.Rule.Slice.PartMut.{put_mid, same_len_mid}
use Rattle.cull_base.specs.Stream.{SourceSays, Takes}
use Rattle.cull_base.proofs.Takes.{takes_more, bytes_of_part}
use Rattle.cull_base.proofs.Turns.{Progress, turns_of, turns_within, turn_without, none_taken}
use Rattle.cull_base.proofs.source.fill.Goals as goal

pub loop-filled-preserved : goal.loop-filled-preserved
loop-filled-preserved g c =
    let i = c.loop-filled.invariant in
    let k = c.loop-filled.filled in
    let buffer = c.loop-filled.buffer in
    let part = c.read.new.buf in
    let m = length buffer - k in
    let same : length (put_mid k m buffer part) ≡ length buffer = same_len_mid k m buffer part c.read.auto.buf in
    let long : length part ≡ m = omega (arith, c.read.auto.buf, length-take m (drop k buffer), length-drop k buffer) in
    let in_part : c.in_ok-n.n ≤ length part = omega (arith, c.in_ok-n.ensures.within, c.read.auto.buf) in
    let bytes = bytes_of_part k m buffer part i.within (λ j. omega (arith, c.type_inv.buffer j)) in
    record {
      whole = same ∙ i.whole;
      within = omega (arith, same, long, in_part, i.within);
      taken = takes_more _ _ _ k m c.in_ok-n.n buffer part i.within in_part bytes i.taken c.in_ok-n.ensures.taken;
      faults = omega (arith, i.faults, c.in_ok-n.ensures.faults_stay);
      turns = omega (arith, i.turns, c.in_ok-n.ensures.turn, c.if-n-eq0.false);
    }

-- what the loop has filled
so_far : {a b : SourceSays} (k : ℕ) (buffer : List ℕ) → k ≤ length buffer → Takes a.left b.left (take k buffer) → a.faults ≤ b.faults → b.turns ≤ a.turns + k → Progress k a b
so_far k buffer within taken faults turns = record { bytes = take k buffer; takes = taken; count = omega (arith, length-take k buffer, within); faults = faults; turns = turns }

pub returns-in_err-n-clause-takes : goal.returns-in_err-n-clause-takes
returns-in_err-n-clause-takes g c =
    let i = c.loop-filled.invariant in
    turns_within (omega (arith, i.within, i.whole)) (turn_without (so_far c.loop-filled.filled c.loop-filled.buffer i.within i.taken i.faults i.turns) c.in_err-n.ensures.unchanged c.in_err-n.ensures.turn)

pub returns-then-n-eq0-clause-takes : goal.returns-then-n-eq0-clause-takes
returns-then-n-eq0-clause-takes g c =
    let i = c.loop-filled.invariant in
    let same = none_taken _ _ c.read.new.buf (rw c.if-n-eq0.true at c.in_ok-n.ensures.taken) in
    turns_within (omega (arith, i.within, i.whole)) (turn_without (so_far c.loop-filled.filled c.loop-filled.buffer i.within i.taken i.faults i.turns) same c.in_ok-n.ensures.turn)

pub returns-clause-takes : goal.returns-clause-takes
returns-clause-takes g c =
    let i = c.loop-filled.invariant in
    turns_within (omega (arith, i.within, i.whole)) (turns_of (so_far c.loop-filled.filled c.loop-filled.buffer i.within i.taken i.faults i.turns))
