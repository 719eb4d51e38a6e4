-- The rule of a worker's deque, read place by place.
use Rattle.std.proofs.Common.{◌≡◌, ℕ, zero, suc, ◌+◌, ◌<◌, eqb, eq-eqb, ne_eqb, cond, List, [], ◌∷◌, length, get_or, refl, ap, ◌∙◌, arith}
use Rattle.bin_queues.specs.Tasks.{Tasking}
use Rattle.steal_pool.specs.declared.deque_rule.Call.{Call}
use Rattle.steal_pool.specs.declared.deque_rule.View.{View}
use Rattle.steal_pool.specs.DequeRule.{weigh, places, taken_weighs, HasEvery, Running}
use Rattle.steal_pool.specs.Counted.{is_at, times_in, StandOnce, StandNowhereElse, FrontCounts, OwnerHasEach, OwnerHasNoOther}
use Rattle.steal_pool.proofs.Weights.{weigh_length, each_none, only_one, places_length}

-- 1 where the bin is the i-th, and else 0
abbrev once_at : List ℕ → ℕ → ℕ → ℕ
once_at [] i b = 0
once_at (x ∷ bs) zero b = cond (eqb b x) 1 0
once_at (x ∷ bs) (suc i) b = once_at bs i b

elsewhere : (i b j x : ℕ) → (i ≡ j → ⊥) → is_at (i, b) (j, x) ≡ 0
elsewhere i b j x ne = ap (λ t. cond t (cond (eqb b x) 1 0) 0) (ne_eqb i j ne)

here : (i b j x : ℕ) → i ≡ j → is_at (i, b) (j, x) ≡ cond (eqb b x) 1 0
here i b j x e = ap (λ t. cond t (cond (eqb b x) 1 0) 0) (eq-eqb i j e)

never : (i b n : ℕ) (bs : List ℕ) → i < n → weigh (is_at (i, b)) (places n bs) ≡ 0
never i b n [] lt = refl
never i b n (x ∷ bs) lt = let a = elsewhere i b n x (λ e. omega arith) in let r = never i b (suc n) bs (omega arith) in omega arith

stands : (n i b : ℕ) (bs : List ℕ) (m : ℕ) → m ≡ n + i → weigh (is_at (m, b)) (places n bs) ≡ once_at bs i b
stands n i b [] m e = refl
stands n zero b (x ∷ bs) m e = let a = here m b n x (omega arith) in let r = never m b (suc n) bs (omega arith) in omega arith
stands n (suc i) b (x ∷ bs) m e = let a = elsewhere m b n x (λ z. omega arith) in let r = stands (suc n) i b bs m (omega arith) in omega arith

once_there : (bs : List ℕ) (i : ℕ) → i < length bs → once_at bs i (get_or bs i 0) ≡ 1
once_there [] i lt = absurd (omega arith)
once_there (x ∷ bs) zero lt = ap (λ t. cond t 1 0) (eq-eqb x x refl)
once_there (x ∷ bs) (suc i) lt = once_there bs i (omega (arith, lt))

once_else : (bs : List ℕ) (i b : ℕ) → (i < length bs → b ≡ get_or bs i 0 → ⊥) → once_at bs i b ≡ 0
once_else [] i b differs = refl
once_else (x ∷ bs) zero b differs = ap (λ t. cond t 1 0) (ne_eqb b x (λ e. differs (omega arith) e))
once_else (x ∷ bs) (suc i) b differs = once_else bs i b (λ lt e. differs (omega (arith, lt)) e)

counted : (items : List Tasking) (views : List View) (c : Call) (gone : List ℕ) → Running items views c gone → (i b : ℕ) → weigh (times_in i b) views ≡ once_at gone i b
counted items views c gone run i b = run.once (is_at (i, b)) ∙ stands 0 i b gone i (omega arith)

-- each place below front stands in one view's list, once, with the bin that was pushed there
pub stand_once : StandOnce
stand_once items views c gone run i lt = only_one (times_in i (get_or gone i 0)) views (counted items views c gone run i (get_or gone i 0) ∙ once_there gone i lt)

-- and no other place in any
pub stand_nowhere_else : StandNowhereElse
stand_nowhere_else items views c gone run i b differs = each_none (times_in i b) views (counted items views c gone run i b ∙ once_else gone i b differs)

lengths : (views : List View) → taken_weighs (λ (p : ℕ × ℕ). 1) views ≡ weigh (λ (v : View). length v.taken) views
lengths [] = refl
lengths (v ∷ vs) = let a = weigh_length v.taken in let b = lengths vs in omega arith

-- front is the number of all places that were taken
pub front : FrontCounts
front items views c gone run =
    let a = run.once (λ (p : ℕ × ℕ). 1) in
    let b = lengths views in
    let d = weigh_length (places 0 gone) in
    let e = places_length 0 gone in
    omega arith

every_once : (v : View) → HasEvery v → v.out ≡ 0 → (i b : ℕ) → times_in i b v ≡ once_at v.pushed i b
every_once v every none i b = every none (is_at (i, b)) ∙ stands 0 i b v.pushed i (omega arith)

-- the list of an owner that has every place
pub owner_has_each : OwnerHasEach
owner_has_each v every none i lt = every_once v every none i (get_or v.pushed i 0) ∙ once_there v.pushed i lt

pub owner_has_no_other : OwnerHasNoOther
owner_has_no_other v every none i b differs = every_once v every none i b ∙ once_else v.pushed i b differs
