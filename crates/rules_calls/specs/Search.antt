-- 01, Reserving search and Stealing search. Assumes nothing.
use Rattle.std.specs.Prelude.{ℕ, ◌*◌, ◌/◌, ◌^◌, leb, ltb, Option, Some, None}
use Rattle.rules.specs.Base.{pick, ifte, first_in}
use Rattle.rules.specs.Words.{Config, huge_order, trees_of}
use Rattle.rules.specs.declared.Request.{Request}
use Rattle.rules_calls.specs.declared.Walk.{Walk}
use Rattle.rules_calls.specs.State.{State, Way, or_else}
use Rattle.rules_calls.specs.Walking.{search_best}

-- near = max(n / 16, 4)
unfoldable pub near : ℕ → ℕ
near n = pick (ltb (n / 16) 4) 4 (n / 16)

-- rounded down to a multiple of 2^e
unfoldable pub round_down : ℕ → Option ℕ → ℕ
round_down start (Some e) = start / 2 ^ e * 2 ^ e
round_down start None = 0

-- start rounded down to a multiple of the least power of two not below 2 × near (at most 2^7, with n at most 1,024)
unfoldable pub rounded_start : ℕ → ℕ → ℕ
rounded_start n start = round_down start (first_in (λ e. leb (2 * near n) (2 ^ e)) 0 8)

-- walk 0 to n, N = 8
unfoldable pub search_far : Config → Request → ℕ → ℕ → State → Way
search_far c q j start s = search_best c q Walk.Far j 8 (trees_of c) start 0 (trees_of c) s

-- below order 9: walk 1 to near, N = 3; then the far walk
unfoldable pub search_from : Config → Request → ℕ → ℕ → State → Way
search_from c q j start s =
    ifte (ltb q.order (huge_order c.tree_order))
    (λ _. or_else (search_best c q Walk.Near j 3 (trees_of c) start 1 (near (trees_of c)) s) (search_far c q j start))
    (λ _. search_far c q j start s)

-- reserving search, for the local j
unfoldable pub search_and_reserve : Config → Request → ℕ → ℕ → State → Way
search_and_reserve c q j start s = search_from c q j (rounded_start (trees_of c) start) s

-- stealing search: walk 0 to n, N = 8, plain ratings (it has no own local: slot 0 is not read)
unfoldable pub search_and_steal : Config → Request → ℕ → State → Way
search_and_steal c q start s = search_best c q Walk.Stealing 0 8 (trees_of c) start 0 (trees_of c) s
