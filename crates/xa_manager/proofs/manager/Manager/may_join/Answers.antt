use Rattle.std.proofs.Common.{◌≡◌, ◌+◌, ◌≤◌, true, false, length, arith, rules}
use Rattle.std.proofs.lemmas.Bool.Decides.{nat_tests}
use Rattle.xa_limits.specs.declared.TheConstants.{MOST_BODY}
use Rattle.xa_manager.specs.Plans.{bytes_of}
use Rattle.xa_manager.specs.Rows.{more_of, takes_memory}
use Rattle.xa_manager.proofs.Grouping.{are_apart, bounded_by, found_room, kept_room}
use Rattle.xa_manager.proofs.Plans.{other_rows}
use Rattle.xa_manager.proofs.manager.Manager.may_join.Goals as goal

pub returns-in_default : goal.returns-in_default
returns-in_default g c = λ e.
    let t = c.args.together.now in
    let l = c.args.logging.now in
    let none : takes_memory l.row ≡ false = other_rows l.row (search rules) in
    let apart : c.is_apart.result ≡ true = search rules in
    let most : c.saturating_add-len.result ≤ c.most.result = grind (arith, nat_tests, c.if-len-most.false) in
    let sum : c.saturating_add-len.result ≡ t.bytes + length (bytes_of l.body) = grind (arith, nat_tests, c.len.ensures, c.saturating_add-len.ensures, c.most.ensures.short, c.if-len-most.false) in
    let short : t.bytes + length (bytes_of l.body) ≤ MOST_BODY = grind (arith, nat_tests, c.len.ensures, c.saturating_add-len.ensures, c.most.ensures.short, c.if-len-most.false) in
    record {
      apart = are_apart t.members.items l.xid c.is_apart.result c.is_apart.ensures apart;
      short = short;
      bounded = bounded_by t.members.items t.bytes (length (bytes_of l.body)) c.saturating_add-len.result c.most.result most sum c.most.ensures.bounded;
      room = λ s st up. kept_room s t.bytes (length t.prepares.items) (length (bytes_of l.body)) l.row none;
    }

pub returns : goal.returns
returns g c = λ e.
    let t = c.args.together.now in
    let l = c.args.logging.now in
    let w = c.in-Writes.writing in
    let apart : c.is_apart.result ≡ true = search rules in
    let sum : c.saturating_add-len.result ≡ t.bytes + length (bytes_of l.body) = grind (arith, nat_tests, c.len.ensures, c.saturating_add-len.ensures, c.most.ensures.short, c.if-len-most.false) in
    let most : c.saturating_add-len.result ≤ c.most.result = grind (arith, nat_tests, c.if-len-most.false) in
    let small : c.saturating_add-len.result ≤ MOST_BODY = grind (arith, nat_tests, c.most.ensures.short, c.if-len-most.false) in
    let more : c.more.result + c.len-2.result ≡ more_of w + length t.prepares.items = omega (arith, c.more.ensures, c.len-2.ensures) in
    record {
      apart = are_apart t.members.items l.xid c.is_apart.result c.is_apart.ensures apart;
      short = omega (arith, sum, small);
      bounded = bounded_by t.members.items t.bytes (length (bytes_of l.body)) c.saturating_add-len.result c.most.result most sum c.most.ensures.bounded;
      room = λ s st up. found_room s t.bytes (length t.prepares.items) (length (bytes_of l.body)) _ _ w l.row c.has_room.result c.in-Writes.is sum more (c.has_room.ensures.room s st up small) e;
    }
