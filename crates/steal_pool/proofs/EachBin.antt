-- One task of each bin: no bin has two.
use Rattle.std.proofs.Common.{◌≡◌, ℕ, zero, suc, ◌+◌, ◌≤◌, ◌<◌, cond, eq-eqb, ne_eqb, List, [], ◌∷◌, length, get_or, refl, ap, sym, ◌∙◌, below_more, arith, inl, inr}
use Rattle.std.proofs.lemmas.Bool.{cases_eq}
use Rattle.std.proofs.lemmas.List.{get_or_default}
use Rattle.bin_queues.specs.QueueParts.{BatchedFrame}
use Rattle.bin_queues.specs.Tasks.{QueuesOf, Tasking}
use Rattle.binning.specs.Cut.{bin_count_of}
use Rattle.tile_queues.specs.Owners.{AreTasksOf}
use Rattle.steal_pool.specs.Counted.{tasks_of_bin, EachBinOnce}
use Rattle.steal_pool.specs.Lists.{joined}
use Rattle.steal_pool.proofs.Joining.{is_bin, joined_weigh, some_of, there}
use Rattle.steal_pool.proofs.Weights.{only_one}

-- what the numbers below n give together
abbrev upto : (ℕ → ℕ) → ℕ → ℕ
upto f zero = 0
upto f (suc n) = upto f n + f n

upto_none : (n : ℕ) → upto (λ b. 0) n ≡ 0
upto_none zero = refl
upto_none (suc n) = let e = upto_none n in omega (arith, e)

upto_sum : (f g : ℕ → ℕ) (n : ℕ) → upto (λ b. f b + g b) n ≡ upto f n + upto g n
upto_sum f g zero = refl
upto_sum f g (suc n) = let e = upto_sum f g n in omega (arith, e)

-- a bin is at most one of those below n
before : (x n : ℕ) → n ≤ x → upto (λ b. is_bin b x) n ≡ 0
before x zero le = refl
before x (suc n) le =
    let r = before x n (omega (arith, le)) in
    let none : is_bin n x ≡ 0 = ap (λ t. cond t 1 0) (ne_eqb x n (λ e. omega (arith, le, e))) in
    omega (arith, r, none)

one_bin : (x n : ℕ) → upto (λ b. is_bin b x) n ≤ 1
one_bin x zero = omega arith
one_bin x (suc n) = elim (cases_eq x n) [
  | inl e ↦
      let r = before x n (omega (arith, e)) in
      let one : is_bin n x ≡ 1 = ap (λ t. cond t 1 0) (eq-eqb x n e) in
      omega (arith, r, one)
  | inr ne ↦
      let r = one_bin x n in
      let none : is_bin n x ≡ 0 = ap (λ t. cond t 1 0) (ne_eqb x n ne) in
      omega (arith, r, none)
]

few : (ts : List Tasking) (n : ℕ) → upto (λ b. tasks_of_bin b ts) n ≤ length ts
few [] n = let e = upto_none n in omega (arith, e)
few (t ∷ ts) n =
    let a = upto_sum (λ b. is_bin b t.of.bin) (λ b. tasks_of_bin b ts) n in
    let o = one_bin t.of.bin n in
    let r = few ts n in
    omega (arith, a, o, r)

many : (f : ℕ → ℕ) (n : ℕ) → ((b : ℕ) → b < n → 1 ≤ f b) → n ≤ upto f n
many f zero some = omega arith
many f (suc n) some =
    let r = many f n (λ b lt. some b (omega (arith, lt))) in
    let last = some n (omega arith) in
    omega (arith, r, last)

-- n numbers, of which none is 0, that give no more than n together are all 1
exact : (f : ℕ → ℕ) (n : ℕ) → ((b : ℕ) → b < n → 1 ≤ f b) → upto f n ≤ n → (b : ℕ) → b < n → f b ≡ 1
exact f zero some le b lt = absurd (omega (arith, lt))
exact f (suc n) some le b lt =
    let m = many f n (λ k h. some k (omega (arith, h))) in
    let last = some n (omega arith) in
    below_more _ _ (exact f n (λ k h. some k (omega (arith, h))) (omega (arith, le, last))) (let e : f n ≡ 1 = omega (arith, le, m, last) in e) b (omega (arith, lt))

-- the tasks of a frame have one of each bin
one_of_each : (queues : QueuesOf) (frame : BatchedFrame) (ts : List Tasking) → AreTasksOf queues frame ts → (b : ℕ) → b < bin_count_of frame.cut → tasks_of_bin b ts ≡ 1
one_of_each queues frame ts at =
    let count = at.count in
    let few_bins = few ts (bin_count_of frame.cut) in
    exact (λ b. tasks_of_bin b ts) (bin_count_of frame.cut)
    (λ b lt.
    let f = at.all b lt in
    let some = some_of ts (let k = f.1 in omega (arith, k)) in
    there ts b f.0 (get_or ts f.0 some) f.1 (get_or_default ts f.0 some (get_or ts f.0 some) f.1) (f.2 some))
    (omega (arith, count, few_bins))

pub each_bin_once : EachBinOnce
each_bin_once queues frame lists whole b lt =
    only_one (tasks_of_bin b) lists (sym (joined_weigh (λ ts. ts) (is_bin b) lists) ∙ one_of_each queues frame (joined (λ ts. ts) lists) whole.tasks_are b lt)
