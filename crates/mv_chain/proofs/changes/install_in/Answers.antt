use Rattle.std.proofs.Common.{◌<◌, ◌∙◌, length, ap, subst, sym, refl, arith}
use Rattle.mv_chain.specs.declared.version.Version.{Version}
use Rattle.mv_chain.specs.Chain.{base, unread, IsChain}
use Rattle.mv_chain.specs.Pool.{shown_at}
use Rattle.mv_chain.proofs.Exact.{installed_own, installed_new}
use Rattle.mv_chain.proofs.Anywhere.{chain_installed}
use Rattle.mv_chain.proofs.Counted.{changed_counts, put_in_counts, grown_counts}
use Rattle.mv_chain.proofs.Frames.{shown_length, changed_shown, changed_held, put_in_shown, put_in_held, grown_shown, grown_held, then_ok, by_result}
use Rattle.mv_chain.proofs.changes.install_in.Goals as goal

pub returns-in-Own-clause-versions : goal.returns-in-Own-clause-versions
returns-in-Own-clause-versions c = λ ts k e.
    let vs = shown_at c.args.pool.now c.args.slots.now.items in
    let o = c.in-Own.ensures.slot ts vs k.chain (omega (arith, c.len.ensures, shown_length c.args.pool.now c.args.slots.now.items)) e in
    let within : c.in-Own.i < length c.args.slots.now.items = omega (arith, c.in-Own.ensures.own c.in-Own.i refl, c.len.ensures) in
    changed_shown (λ (v : Version). record v { value = c.args.value }) c.args.pool.now c.replace.new.pool c.args.slots.now.items c.in-Own.i _ base within k.held (rw c.deref.ensures at c.replace.ensures)
    ∙ installed_own ts c.in-Own.i c.args.value vs _ base o.within k.chain o.in_time (o.own base).0 (o.own base).1 refl

pub returns-in-Own-clause-kept : goal.returns-in-Own-clause-kept
returns-in-Own-clause-kept c = λ ts k e.
    let vs = shown_at c.args.pool.now c.args.slots.now.items in
    let o = c.in-Own.ensures.slot ts vs k.chain (omega (arith, c.len.ensures, shown_length c.args.pool.now c.args.slots.now.items)) e in
    let within : c.in-Own.i < length c.args.slots.now.items = omega (arith, c.in-Own.ensures.own c.in-Own.i refl, c.len.ensures) in
    let same = changed_shown (λ (v : Version). record v { value = c.args.value }) c.args.pool.now c.replace.new.pool c.args.slots.now.items c.in-Own.i _ base within k.held (rw c.deref.ensures at c.replace.ensures)
    ∙ installed_own ts c.in-Own.i c.args.value vs _ base o.within k.chain o.in_time (o.own base).0 (o.own base).1 refl in
    record {
      held = changed_held (λ (v : Version). record v { value = c.args.value }) c.args.pool.now c.replace.new.pool c.args.slots.now.items _ c.replace.ensures k.held;
      chain = subst IsChain (sym same) (chain_installed ts c.args.value vs k.chain);
    }

pub returns-in-Own-clause-count : goal.returns-in-Own-clause-count
returns-in-Own-clause-count c =
    changed_counts (λ (v : Version). record v { value = c.args.value }) _ c.args.pool.now c.replace.new.pool c.args.slots.now.items c.replace.ensures

pub returns-in-New-clause-versions : goal.returns-in-New-clause-versions
returns-in-New-clause-versions c =
    then_ok c.put_in.result c.put_in.ensures.ok (λ p ts k e.
    let vs = shown_at c.args.pool.now c.args.slots.now.items in
    let n = c.in-New.ensures.slot ts vs k.chain (omega (arith, c.len.ensures, shown_length c.args.pool.now c.args.slots.now.items)) e in
    put_in_shown c.in-New.i (unread c.args.look.now.at c.args.value) c.args.pool.now c.put_in.new.pool c.args.slots.now.items c.put_in.new.slots.items k.held p
    ∙ rw (ap (λ l. l.at) e) (installed_new ts c.in-New.i c.args.value vs n.in_time n.index n.none))

pub returns-in-New-clause-kept : goal.returns-in-New-clause-kept
returns-in-New-clause-kept c = λ ts k e.
    let vs = shown_at c.args.pool.now c.args.slots.now.items in
    let n = c.in-New.ensures.slot ts vs k.chain (omega (arith, c.len.ensures, shown_length c.args.pool.now c.args.slots.now.items)) e in
    by_result c.put_in.result c.put_in.ensures.ok c.put_in.ensures.same c.put_in.ensures.err
    (λ p. record {
      held = put_in_held c.in-New.i (unread c.args.look.now.at c.args.value) c.args.pool.now c.put_in.new.pool c.args.slots.now.items c.put_in.new.slots.items k.held p;
      chain = subst IsChain (sym (put_in_shown c.in-New.i (unread c.args.look.now.at c.args.value) c.args.pool.now c.put_in.new.pool c.args.slots.now.items c.put_in.new.slots.items k.held p
          ∙ rw (ap (λ l. l.at) e) (installed_new ts c.in-New.i c.args.value vs n.in_time n.index n.none))) (chain_installed ts c.args.value vs k.chain);
    })
    (λ same err. rw err (record {
      held = grown_held c.args.pool.now c.put_in.new.pool c.args.slots.now.items same k.held;
      chain = subst IsChain (sym (grown_shown c.args.pool.now c.put_in.new.pool c.args.slots.now.items same)) k.chain;
    }))

pub returns-in-New-clause-count : goal.returns-in-New-clause-count
returns-in-New-clause-count c =
    by_result c.put_in.result c.put_in.ensures.ok c.put_in.ensures.same c.put_in.ensures.err
    (λ p. put_in_counts c.in-New.i (unread c.args.look.now.at c.args.value) c.args.pool.now c.put_in.new.pool c.args.slots.now.items c.put_in.new.slots.items p)
    (λ same err. rw err (grown_counts c.args.pool.now c.put_in.new.pool c.args.slots.now.items same))
