use Rattle.std.proofs.Common.{ℕ, ◌<◌, ◌≤◌, ◌-◌, ◌*◌, ◌^◌, length, get_or}
use Rattle.dispatch_tables.proofs.cancelled.search.Given as goal

abbrev pub invariant-loop-low : goal.invariant-loop-low
invariant-loop-low l = record {
  sized : length l.list < 2 ^ 64;
  in_order : l.low ≤ l.high;
  within : l.high ≤ length l.list;
  below : (k : ℕ) → k < l.low → get_or l.list k l.fd < l.fd;
  above : (k : ℕ) → l.high ≤ k → k < length l.list → l.fd < get_or l.list k l.fd;
  halved : (l.high - l.low) * 2 ^ l.probes ≤ length l.list;
  few : (digits : ℕ) → length l.list < 2 ^ digits → l.probes ≤ digits;
}

abbrev pub decreases-loop-low : goal.decreases-loop-low
decreases-loop-low l = l.high - l.low
