-- What a connection and its door have done stays with each call, and is what `serve` does.
use Rattle.std.proofs.Common.{◌≡◌, ◌≢◌, ℕ, ◌+◌, List, [], ◌++◌, length, Option, Some, None, refl, sym, ap, ◌∙◌, inl, inr, append_assoc, append-nil, arith, subst}
use Rattle.std.specs.List.{flat_map}
use Rattle.xa_frame.specs.declared.question.Question.{Question}
use Rattle.xa_frame.specs.declared.reply.Reply.{Reply}
use Rattle.xa_desk.specs.declared.served.Served.{Served}
use Rattle.xa_desk.specs.declared.served.Served.TheVariants.{Ended, ReadFault, WriteFault, TooLong, Memory}
use Rattle.xa_desk.specs.Believed.Frames.{frame}
use Rattle.xa_desk.specs.Believed.Serving.{Ends, Talks}
use Rattle.xa_roles.specs.declared.role.Role.{Role}
use Rattle.xa_roles.specs.declared.role.Role.TheVariants.{Operator}
use Rattle.xa_connection.specs.Believed.Access.{AnswersAllTo}
use Rattle.xa_connection.proofs.Allowing.{answers-append-to, operator-answers}
use Rattle.xa_connection.specs.declared.connection.Connection.{Connection}
use Rattle.xa_connection.specs.declared.answering.Answering.{Answering}
use Rattle.xa_connection.specs.Calls.{Turns}
use Rattle.xa_connection.specs.Carries.{CarriesLaw, Sends}
use Rattle.xa_connection.specs.Talked.{HasEnded, HasTalked, TalkedLaw}
use Rattle.xa_connection.proofs.Carrying.{all-sent, carries-law}

-- what came in is what was read and the rest, and so it ends
talks-so : {D : Type 0} (standing : Option Role) (called : D → Question → Reply → D → Type 0) (first d : D) (fed sent : List ℕ) (c : Connection) (end : Option Served) (h : HasTalked standing called first fed sent c d) (operator : standing ≡ Some Operator) (read rest : List ℕ)
    → c.input ≡ read ++ rest → Ends end h.replies read sent → (end ≡ Some Ended → rest ≡ [])
    → (most : ℕ) × (left : List ℕ) × Talks called most end (Some fed) (Some left) (Some []) (Some sent) first d
talks-so standing called first d fed sent c end h operator read rest is ends at_end =
    let before : List ℕ = flat_map frame h.contents in (
      length h.contents + 1,
      rest,
      record {
        contents = h.contents;
        replies = h.replies;
        read = read;
        written = sent;
        short = h.carries.short;
        few = omega arith;
        consumed = h.carries.fed_is ∙ ap (λ (bs : List ℕ). before ++ bs) is ∙ sym (append_assoc before read rest);
        answered = operator-answers called first d h.contents h.replies
            (subst (λ (s : Option Role). AnswersAllTo s called first h.contents h.replies d) operator h.answered);
        appended = refl;
        ends = ends;
        beyond = inr (omega arith);
        at_end = λ e. (at_end e, omega arith);
      },
    )

-- a reply is under way: of its frame a part was sent
write-fault : (end : Option Served) (replies : List Reply) (input sent unsent : List ℕ) → unsent ≢ [] → Sends end replies input sent unsent
    → (read : List ℕ) × (rest : List ℕ) × (input ≡ read ++ rest) × Ends (Some WriteFault) replies read sent
write-fault None replies input sent unsent some h =
    elim h.last [
      | inl none ↦ absurd (some none)
      | inr k ↦ ([], input, refl, (k.0, k.1, k.2, inl (refl, sym k.3), (unsent, some, k.5), k.4))
    ]
write-fault (Some TooLong) replies input sent unsent some h =
    let b = h.0 in
    elim h.1.last [
      | inl none ↦ absurd (some none)
      | inr k ↦ (b.0, b.1, b.3, (k.0, k.1, k.2, inr (b.2, sym k.3), (unsent, some, k.5), k.4))
    ]
write-fault (Some Memory) replies input sent unsent some h = absurd (some h.7)
write-fault (Some Ended) replies input sent unsent some h = absurd h
write-fault (Some ReadFault) replies input sent unsent some h = absurd h
write-fault (Some WriteFault) replies input sent unsent some h = absurd h

has-ended : {D : Type 0} (standing : Option Role) (called : D → Question → Reply → D → Type 0) (first d : D) (fed sent : List ℕ) (c : Connection) (end : Option Served) → HasTalked standing called first fed sent c d → HasEnded end c → standing ≡ Some Operator
    → (most : ℕ) × (rest : List ℕ) × Talks called most end (Some fed) (Some rest) (Some []) (Some sent) first d
has-ended standing called first d fed sent c None h p operator =
    talks-so standing called first d fed sent c None h operator [] c.input refl (refl, all-sent c.end h.replies c.input sent c.output p.0 p.1 h.carries.sends) (λ e. absurd (cc e))
has-ended standing called first d fed sent c (Some Ended) h p operator =
    talks-so standing called first d fed sent c (Some Ended) h operator [] c.input refl (refl, all-sent c.end h.replies c.input sent c.output p.0 p.1 h.carries.sends) (λ e. p.2)
has-ended standing called first d fed sent c (Some ReadFault) h p operator =
    talks-so standing called first d fed sent c (Some ReadFault) h operator c.input [] (sym (append-nil c.input)) (p.2, all-sent c.end h.replies c.input sent c.output p.0 p.1 h.carries.sends) (λ e. refl)
has-ended standing called first d fed sent c (Some WriteFault) h p operator =
    let w = write-fault c.end h.replies c.input sent c.output p h.carries.sends in
    talks-so standing called first d fed sent c (Some WriteFault) h operator w.0 w.1 w.2 w.3 (λ e. absurd (cc e))
has-ended standing called first d fed sent c (Some TooLong) h p operator =
    let k : Sends (Some TooLong) h.replies c.input sent c.output = subst (λ (x : Option Served). Sends x h.replies c.input sent c.output) p.0 h.carries.sends in
    talks-so standing called first d fed sent c (Some TooLong) h operator k.0.0 k.0.1 k.0.3
    (k.0.2, sym (append-nil sent) ∙ sym (k.1.in_order ∙ ap (λ (bs : List ℕ). sent ++ bs) p.1)) (λ e. absurd (cc e))
has-ended standing called first d fed sent c (Some Memory) h p operator =
    let k : Sends (Some Memory) h.replies c.input sent c.output = subst (λ (x : Option Served). Sends x h.replies c.input sent c.output) p h.carries.sends in
    talks-so standing called first d fed sent c (Some Memory) h operator k.2 k.3 k.4 (k.0, k.6, inr (k.1, k.5)) (λ e. absurd (cc e))

-- what it carries is of the same contents and replies
talked-so : {D : Type 0} (standing : Option Role) (called : D → Question → Reply → D → Type 0) (first d e : D) (fed sent : List ℕ) (c c' : Connection) (answering : Answering) → HasTalked standing called first fed sent c d → Turns standing called c d answering c' e
    → HasTalked standing called first fed sent c' e
talked-so standing called first d e fed sent c c' answering h t =
    let law : CarriesLaw standing called = carries-law standing called in
    let a = law.answered h.contents h.replies fed sent answering c c' d e h.carries t in
    record {
      contents = h.contents ++ a.0;
      replies = h.replies ++ a.1;
      answered = answers-append-to standing called first d e h.contents a.0 h.replies a.1 h.answered a.2;
      carries = a.3;
    }

pub talked-law : {D : Type 0} (standing : Option Role) (called : D → Question → Reply → D → Type 0) → TalkedLaw standing called
talked-law standing called =
    let law : CarriesLaw standing called = carries-law standing called in
    record {
      begins = λ d. record { contents = []; replies = []; answered = refl; carries = law.begins };
      fed = λ first d fed sent bytes count c c' h f. record {
        contents = h.contents;
        replies = h.replies;
        answered = h.answered;
        carries = law.fed h.contents h.replies fed sent bytes count c c' h.carries f;
      };
      answered = λ first d e fed sent answering c c' h t. talked-so standing called first d e fed sent c c' answering h t;
      sent = λ first d fed sent count c h. record {
        contents = h.contents;
        replies = h.replies;
        answered = h.answered;
        carries = law.sent h.contents h.replies fed sent count c h.carries;
      };
      ended = has-ended standing called;
    }
