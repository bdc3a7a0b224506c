use Rattle.std.specs.Int.{w64, to_be_bytes}
use Rattle.xa_frame.proofs.Lists.{on_ok, put_five, put_ten}
use Rattle.xa_frame.proofs.status.put_status.Goals as goal

pub returns-clause-bytes : goal.returns-clause-bytes
returns-clause-bytes c =
    let s = c.args.status in
    let out = c.args.out.now.items in
    let five = c.put_u64-5.new.out.items in
    on_ok c.put_u64-10.result _ _
    (λ last.
    put_ten out five c.put_u64-10.new.out.items
    (to_be_bytes w64 s.boot) (to_be_bytes w64 s.end) (to_be_bytes w64 s.bytes) (to_be_bytes w64 s.branches) (to_be_bytes w64 s.prepared)
    (to_be_bytes w64 s.completed) (to_be_bytes w64 s.sessions) (to_be_bytes w64 s.versions) (to_be_bytes w64 s.calls) (to_be_bytes w64 s.seconds)
    (put_five out c.put_u64.new.out.items c.put_u64-2.new.out.items c.put_u64-3.new.out.items c.put_u64-4.new.out.items five
    (to_be_bytes w64 s.boot) (to_be_bytes w64 s.end) (to_be_bytes w64 s.bytes) (to_be_bytes w64 s.branches) (to_be_bytes w64 s.prepared)
    c.in_ok-put_u64.ensures c.in_ok-put_u64-2.ensures c.in_ok-put_u64-3.ensures c.in_ok-put_u64-4.ensures c.in_ok-put_u64-5.ensures)
    (put_five five c.put_u64-6.new.out.items c.put_u64-7.new.out.items c.put_u64-8.new.out.items c.put_u64-9.new.out.items c.put_u64-10.new.out.items
    (to_be_bytes w64 s.completed) (to_be_bytes w64 s.sessions) (to_be_bytes w64 s.versions) (to_be_bytes w64 s.calls) (to_be_bytes w64 s.seconds)
    c.in_ok-put_u64-6.ensures c.in_ok-put_u64-7.ensures c.in_ok-put_u64-8.ensures c.in_ok-put_u64-9.ensures last))
    c.put_u64-10.ensures
