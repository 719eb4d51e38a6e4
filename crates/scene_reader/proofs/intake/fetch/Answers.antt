use Rattle.std.proofs.Common.{◌≡◌, ℕ, ◌+◌, ◌-◌, ◌≤◌, length, take, Some, arith, subst}
use Rattle.std.proofs.lemmas.List.{length-take}
use Rattle.scene_reader.specs.Reading.{EndsWithin}
use Rattle.scene_reader.proofs.Takes.{ends_wider}
use Rattle.scene_reader.proofs.intake.fetch.Goals as goal

-- the part ends before the buffer
pub returns-then-left-buffer-clause-fetches : goal.returns-then-left-buffer-clause-fetches
returns-then-left-buffer-clause-fetches g c =
    let most = c.in-Some.most in
    let taken = c.args.taken in
    let left = most - taken in
    let a = g.S.Source.says c.args.source.now in
    let b = g.S.Source.says c.fetch_rest.new.source in
    let e = c.fetch_rest.result in
    let has : taken ≤ most = rw c.in-Some.is at c.requires.within in
    let rest = length (take left c.args.buffer.now) in
    let less : left + 1 ≤ length c.args.buffer.now = omega (arith, c.if-left-buffer.true) in
    let len : rest ≡ left = omega (arith, length-take left c.args.buffer.now, less) in
    let whole : taken + rest ≡ most = omega (arith, len, has) in
    rw c.in-Some.is (record {
      short = λ refusal. ends_wider (Some most) a b (rest + 1) (length c.args.buffer.now) c.args.need taken e (omega (arith, len, less))
          (subst (λ (n : ℕ). EndsWithin (Some n) (rest + 1) c.args.need taken a b e) whole (c.fetch_rest.ensures.short refusal));
      reads =
          let within : taken + rest ≤ most = omega (arith, whole) in
          let t = c.fetch_rest.ensures.takes in
          record {
            read = λ is. c.fetch_rest.ensures.read cc;
            faults_stay = c.fetch_rest.ensures.faults_stay;
            turns = omega (arith, c.fetch_rest.ensures.turns, len, less);
            takes = record { bytes = t.bytes; takes = t.takes; few = omega (arith, t.few, len, less); turns = t.turns };
            within = omega (arith, t.few, within);
            asked = omega (arith, c.fetch_rest.ensures.turns, within);
          };
      within = tt;
    })

-- the buffer ends within the part
pub fetch_within-requires : goal.fetch_within-requires
fetch_within-requires g c =
    let has : c.args.taken ≤ c.in-Some.most = rw c.in-Some.is at c.requires.within in
    let fits : c.args.taken + length c.args.buffer.now ≤ c.in-Some.most = omega (arith, c.if-left-buffer.false, has) in
    record { room = c.requires.room; within = fits }

-- there is no part
pub fetch_within-requires-in-None : goal.fetch_within-requires-in-None
fetch_within-requires-in-None g c = record { room = c.requires.room; within = rw c.in-None.is tt }
