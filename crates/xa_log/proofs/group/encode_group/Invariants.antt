use Rattle.std.proofs.Common.{◌≡◌, ◌+◌, length, take}
use Rattle.xa_log.specs.Believed.Chain.{last}
use Rattle.xa_log.specs.Believed.Group.{group_bytes, closed}
use Rattle.xa_log.specs.Reading.{bodies_of}
use Rattle.xa_log.proofs.group.encode_group.Given as goal

abbrev pub invariant-loop-body : goal.invariant-loop-body
invariant-loop-body l = record {
  room : length l.buffer ≡ length l.fn.buffer;
  at : l.at ≡ group_bytes (take l.body-index (bodies_of l.bodies));
  digest : l.digest ≡ last l.fn.prev (take l.body-index (bodies_of l.bodies));
  text : take (l.at + 4) l.buffer ≡ closed l.fn.prev (take l.body-index (bodies_of l.bodies));
}
