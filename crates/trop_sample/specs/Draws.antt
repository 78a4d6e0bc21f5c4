-- Pseudo-random draws from a seed, by a linear congruence (the constants are those of the C standard's example of
-- `rand`).
use Rattle.std.specs.Prelude.{ℕ, zero, suc, ◌+◌, ◌*◌, ◌/◌, ◌%◌, ◌^◌}

-- the state behind a state; both are below 2^31
abbrev pub next_state : ℕ → ℕ
next_state state = (1103515245 * state + 12345) % 2 ^ 31

-- the state after some draws
abbrev pub state_after : ℕ → ℕ → ℕ
state_after seed zero = seed
state_after seed (suc draws) = next_state (state_after seed draws)

-- what the state of a draw gives: its upper 15 bits
abbrev pub drawn : ℕ → ℕ
drawn state = state / 65536

-- draw number k, from 0
abbrev pub draw : ℕ → ℕ → ℕ
draw seed k = drawn (state_after seed (suc k))
