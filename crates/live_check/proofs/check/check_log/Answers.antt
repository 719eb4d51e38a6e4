use Rattle.std.proofs.Common.{◌≡◌, ℕ, ◌*◌, ◌≤◌, List, length, Option, arith, sym, ap, ◌∙◌, subst}
use Rattle.std.proofs.Math.Nat.{mul_comm}
use Rattle.cull_report.specs.Live.{watched}
use Rattle.live_check.specs.Fitting.{LogComes, LogStops}
use Rattle.live_check.specs.Waiting.{waiting}
use Rattle.live_check.proofs.Judging.{answer_end, answer_stops, nothing_watched, waiting_none}
use Rattle.live_check.proofs.Places.{AreFew}
use Rattle.live_check.proofs.check.check_log.Goals as goal

few_of : (rounds watch : ℕ) → rounds ≤ 8 → watch ≤ 8 → AreFew rounds watch
few_of rounds watch r w = record { rounds_few = r; watch_few = w }

-- no object is watched
pub returns-then-objects-eq0-clause-answered : goal.returns-then-objects-eq0-clause-answered
returns-then-objects-eq0-clause-answered g c =
    let s = c.args.scene.now in
    let before = (g.S.Source.says c.args.log.now).left in let after = (g.S.Source.says c.answer_at_end.new.log).left in
    let none = sym c.watched_of-objects.ensures.value ∙ c.if-objects-eq0.true in
    let nothing = nothing_watched s c.args.rounds c.args.watch before none in
    let same : before ≡ waiting c.answer_at_end.new.unread after = sym (waiting_none before) ∙ ap (λ (h : List ℕ). waiting h before) (sym c.new-unread.ensures) ∙ sym c.in_ok-answer_at_end.ensures.same in
    answer_end s c.args.rounds c.args.watch c.near-near.ensures.valid (few_of c.args.rounds c.args.watch c.requires.rounds.1 c.requires.watch.1) before after c.answer_at_end.new.unread 0 _
    (sym (ap (λ (n : ℕ). (n * c.args.rounds) * length s.cameras) none ∙ (let zero_lines : (0 * c.args.rounds) * length s.cameras ≡ 0 = omega arith in zero_lines)))
    (subst (λ (o : Option (List ℕ)). LogComes s c.args.rounds c.args.watch before o) same nothing) c.in_ok-answer_at_end.ensures.answer

-- all lines, as they were reckoned
lines_are : (lines rounds objects cameras r w n : ℕ) → lines ≡ rounds * objects → rounds ≡ r → objects ≡ w → cameras ≡ n → lines * cameras ≡ (w * r) * n
lines_are lines rounds objects cameras r w n is re we ne =
    ap (λ (k : ℕ). k * cameras) is ∙ ap (λ (k : ℕ). (k * objects) * cameras) re ∙ ap (λ (k : ℕ). (r * k) * cameras) we ∙ ap (λ (k : ℕ). (r * w) * k) ne ∙ ap (λ (k : ℕ). k * n) (mul_comm r w)

-- a line doesn't come
pub returns-in-Some-clause-answered : goal.returns-in-Some-clause-answered
returns-in-Some-clause-answered g c =
    let s = c.args.scene.now in
    let before = (g.S.Source.says c.args.log.now).left in
    let stops = c.in_ok-good.ensures.stops c.args.watch c.watched_of-objects.ensures.value in
    let there = rw c.in-Some.is at stops in
    let from = subst (λ (r : ℕ). LogStops s r c.args.watch (waiting c.new-unread.result before) c.in-Some.good) c.from.ensures there in
    answer_stops s c.args.rounds c.args.watch c.near-near.ensures.valid (few_of c.args.rounds c.args.watch c.requires.rounds.1 c.requires.watch.1) before _ c.in-Some.good
    (subst (λ (o : Option (List ℕ)). LogStops s c.args.rounds c.args.watch o c.in-Some.good) (ap (λ (h : List ℕ). waiting h before) c.new-unread.ensures ∙ waiting_none before) from)

-- all lines came
pub returns-clause-answered : goal.returns-clause-answered
returns-clause-answered g c =
    let s = c.args.scene.now in
    let before = (g.S.Source.says c.args.log.now).left in let after = (g.S.Source.says c.answer_at_end-2.new.log).left in
    let behind = waiting c.takes_frames.new.unread (g.S.Source.says c.takes_frames.new.log).left in
    let comes = c.in_ok-good.ensures.comes c.args.watch c.watched_of-objects.ensures.value c.in_default.is in
    let all = subst (λ (r : ℕ). LogComes s r c.args.watch (waiting c.new-unread.result before) behind) c.from.ensures comes in
    let from = subst (λ (o : Option (List ℕ)). LogComes s c.args.rounds c.args.watch o behind) (ap (λ (h : List ℕ). waiting h before) c.new-unread.ensures ∙ waiting_none before) all in
    answer_end s c.args.rounds c.args.watch c.near-near.ensures.valid (few_of c.args.rounds c.args.watch c.requires.rounds.1 c.requires.watch.1) before after c.answer_at_end-2.new.unread _ _
    (lines_are c.from-2.result c.from.result c.watched_of-objects.result (length c.cameras.result.now) c.args.rounds (watched s c.args.watch) (length s.cameras) c.from-2.ensures c.from.ensures c.watched_of-objects.ensures.value
    (ap length c.cameras.ensures.value))
    (subst (λ (o : Option (List ℕ)). LogComes s c.args.rounds c.args.watch before o) (sym c.in_ok-answer_at_end-2.ensures.same) from) c.in_ok-answer_at_end-2.ensures.answer
