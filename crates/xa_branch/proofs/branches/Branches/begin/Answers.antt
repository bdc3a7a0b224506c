use Rattle.std.proofs.Common.{◌≡◌, ℕ, ◌+◌, ◌*◌, sym, ◌∙◌, ap, subst, arith}
use Rattle.xa_model.specs.State.{timestamp_of, limit_of}
use Rattle.xa_branch.specs.declared.working.Working.{Working}
use Rattle.xa_branch.specs.Changes.{Keeps, new_kept}
use Rattle.xa_branch.proofs.Begun.{begun_stands}
use Rattle.xa_branch.proofs.branches.Branches.begin.Goals as goal

pub returns-in-Ok-clause-ok : goal.returns-in-Ok-clause-ok
returns-in-Ok-clause-ok c = λ s n h st limit.
    let m = c.args.self.now in
    let time : c.from.result * 4294967296 + m.given + 1 ≡ timestamp_of s.boot (s.given + 1) = omega (arith, c.from.ensures, st.boot, st.given) in
    let new : c.new-working.result ≡ new_kept (timestamp_of s.boot (s.given + 1)) s.moment (limit_of s n) =
    c.new-working.ensures ∙ ap (λ (t : ℕ). new_kept t m.moment c.args.limit) time ∙ ap (λ (k : ℕ). new_kept (timestamp_of s.boot (s.given + 1)) k c.args.limit) st.moment
    ∙ ap (λ (k : ℕ). new_kept (timestamp_of s.boot (s.given + 1)) s.moment k) (sym limit) in
    begun_stands m c.keep.new.self s n c.args.xid.now h st c.in_default.ensures.working c.in_default.ensures.lasting
    (subst (λ (w : Working). Keeps m c.args.xid.now w c.keep.new.self) new c.in-Ok.ensures.ok)
