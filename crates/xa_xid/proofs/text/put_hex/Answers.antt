use Rattle.std.proofs.Common.{◌++◌, ap, ◌∙◌, arith}
use Rattle.std.proofs.lemmas.List.{take_all}
use Rattle.xa_xid.specs.Spelling.{hex}
use Rattle.xa_xid.proofs.Hex.{hex_room, length_all}
use Rattle.xa_xid.proofs.text.put_hex.Goals as goal

pub push-requires : goal.push-requires
push-requires c = (omega arith, omega (arith, hex_room c.args.out.now.items c.loop-byte.out.items c.args.bytes.now c.loop-byte.byte-index c.loop-byte-test.true c.loop-byte.invariant c.requires))

pub push-requires-in-loop-byte : goal.push-requires-in-loop-byte
push-requires-in-loop-byte c = (omega arith, omega (arith, hex_room c.args.out.now.items c.loop-byte.out.items c.args.bytes.now c.loop-byte.byte-index c.loop-byte-test.true c.loop-byte.invariant c.requires))

pub returns-clause-len : goal.returns-clause-len
returns-clause-len c = length_all c.args.out.now.items c.loop-byte.out.items c.args.bytes.now (c.loop-byte.invariant ∙ ap (λ xs. c.args.out.now.items ++ hex xs) (take_all c.loop-byte.byte-index c.args.bytes.now c.loop-byte-test.false))
