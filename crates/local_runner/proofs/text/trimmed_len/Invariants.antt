use Rattle.std.proofs.Common.{◌≡◌, ◌+◌, ◌<◌, ◌≤◌, length, take, true}
use Rattle.std.specs.List.{slice_index, suffix_len}
use Rattle.local_runner.specs.Texts as spec
use Rattle.local_runner.proofs.text.trimmed_len.Given as goal

abbrev pub invariant-loop-len : goal.invariant-loop-len
invariant-loop-len l = record {
  within : l.len ≤ length l.bytes;
  passed : l.len + suffix_len spec.is_line_end l.bytes ≡ length l.bytes + suffix_len spec.is_line_end (take l.len l.bytes);
  cut : l.len < length l.bytes → spec.is_line_end (slice_index l.bytes l.len) ≡ true;
}

abbrev pub decreases-loop-len : goal.decreases-loop-len
decreases-loop-len l = l.len
