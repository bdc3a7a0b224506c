use Rattle.std.proofs.Common.{◌≡◌, ℕ, ℤ, false, refl, ap, sym}
use Rattle.std.specs.Prelude.{Result, Ok, Err, is_err, nat_lt}
use Rattle.xa_assoc.proofs.Follows.{unmoved}
use Rattle.xa_frame.specs.declared.body.Body.TheVariants as body
use Rattle.xa_model.specs.Answer.{carrying}
use Rattle.xa_model.specs.State.{State}
use Rattle.xa_model.specs.TimeLimits.{ticked}
use Rattle.xa_manager.specs.Stands.{StandsFor}
use Rattle.xa_manager.specs.View.{view_of}
use Rattle.xa_manager.proofs.Histories.{ticked_records}
use Rattle.xa_manager.proofs.tables.Tables.tick.Goals as goal

pub returns-in-Ok-clause-follows : goal.returns-in-Ok-clause-follows
returns-in-Ok-clause-follows c =
    rw c.carrying.ensures (record {
      answers = λ s st. ap (λ (n : ℕ). carrying (body.Number n)) (sym (c.in-Ok.ensures.number s st.recoverable.sound st.branches));
      stands = λ s st recoverable. record {
        name = st.name;
        log_bytes = st.log_bytes;
        up = st.up;
        sessions = unmoved c.args.self.now.sessions s (ticked s c.args.moment) refl refl st.sessions;
        branches = c.in-Ok.ensures.ok s st.recoverable.sound st.branches;
        records = ticked_records c.args.moment s c.args.self.now.records st.records;
        recoverable = recoverable;
      };
      served = refl;
    })

-- the moment is not below the last one
never_early : (r : Result ℕ ℤ) (code : ℤ) (moment now last : ℕ) → r ≡ Err code → is_err r ≡ nat_lt moment last → nat_lt moment now ≡ false → now ≡ last → ⊥
never_early (Ok n) code moment now last e early later same = absurd (cc e)
never_early (Err x) code moment now last e early later same = absurd (cc (early, later, same))

pub returns-in-Err-clause-follows : goal.returns-in-Err-clause-follows
returns-in-Err-clause-follows c =
    let never : (s : State) → StandsFor (view_of c.args.self.now) s → ⊥ = λ s st. never_early c.tick.result c.in-Err.code c.args.moment c.args.self.now.branches.moment s.moment c.in-Err.is (c.tick.ensures.early s st.branches) c.requires.later st.branches.moment in
    rw c.plain.ensures (record { answers = λ s st. absurd (never s st); stands = λ s st recoverable. absurd (never s st); served = refl })
