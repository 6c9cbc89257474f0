-- A loop of the program, seen by the definitions, and the capacities that it refuses.
use Rattle.std.specs.Prelude.{◌≡◌, ℕ, ◌<◌, ◌≤◌, ◌⊎◌, Result, Ok, Err}
use Rattle.event_loop.specs.LoopState.{LoopState}
use Rattle.event_loop.specs.Subscribers.{loop_state}
use Rattle.event_loop.specs.declared.error.Error.{Error}
use Rattle.event_loop.specs.declared.error.Error.TheVariants.{InvalidCapacity, OutOfMemory}
use Rattle.event_loop.specs.declared.event_loop.EventLoop.{EventLoop}

abbrev pub seen_of : {S P : Type 0} → EventLoop S P → LoopState S P
seen_of l = loop_state l.registry

-- the largest capacity: as many entries of 12 bytes as 2147483647 bytes hold
abbrev pub max_capacity : ℕ
max_capacity = 178956970

-- a capacity above the largest is refused, and no other but for want of memory
abbrev pub IsCapacityRefused : {A : Type 0} → ℕ → Result A Error → Type 0
IsCapacityRefused capacity (Ok made) = capacity ≤ max_capacity
IsCapacityRefused capacity (Err error) = ((error ≡ InvalidCapacity) × (max_capacity < capacity)) ⊎ ((error ≡ OutOfMemory) × (capacity ≤ max_capacity))
