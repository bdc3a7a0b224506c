-- A line is answered, and the answer shown.
use Rattle.std.proofs.Common.{◌≡◌, ℕ, List, Option, Result, false, inr, subst}
use Rattle.xa_script.specs.declared.line.Line.{Line}
use Rattle.xa_script.specs.Lines as lines
use Rattle.xa_script.specs.Requests.{ReadsTexts}
use Rattle.xa_xid.specs.Triple.{Triple}
use Rattle.xa_talk.specs.declared.answered.Answered.{Answered}
use Rattle.xa_talk.specs.declared.fault.TalkFault.{TalkFault}
use Rattle.xa_talk.specs.declared.manner.Manner.{Manner}
use Rattle.xa_talk.specs.Answers.{LineAnswered}
use Rattle.xa_talk.specs.Help.{asks_help}
use Rattle.xa_talk.specs.Talks.{LineTalked, ShowsAnswer}

pub told : {C X : Type 0} (manner : Manner) (sent left : C → Option (List ℕ)) (line : List ℕ) (said : Line) (answer : Result (Option Answered) TalkFault) (end : Result X TalkFault) (text : List ℕ) (numbered numbered' : List (Option C)) → asks_help manner.is_typed line ≡ false →
    ((xid_of : List ℕ → Option Triple) → ReadsTexts xid_of → said ≡ lines.line_of xid_of line) → LineAnswered sent left said answer numbered numbered' → ShowsAnswer manner answer end text →
    LineTalked manner sent left line end text numbered numbered'
told manner sent left line said answer end text numbered numbered' unhelped read answered shows =
    rw unhelped (inr (answer, shows, λ xid_of reads. subst (λ (s : Line). LineAnswered sent left s answer numbered numbered') (read xid_of reads) answered))
