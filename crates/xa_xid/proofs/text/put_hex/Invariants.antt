use Rattle.std.proofs.Common.{◌≡◌, ◌++◌, take}
use Rattle.xa_xid.specs.Spelling.{hex}
use Rattle.xa_xid.proofs.text.put_hex.Given as goal

abbrev pub invariant-loop-byte : goal.invariant-loop-byte
invariant-loop-byte l = l.out.items ≡ l.initial.out.items ++ hex (take l.byte-index l.bytes)
