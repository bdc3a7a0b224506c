use Rattle.std.proofs.Common.{◌≡◌, ◌∷◌, ◌++◌, ◌∙◌, [], Bool, List, Ok, Err, ℕ, ap, inl, inr, refl, subst}
use Rattle.std.specs.Io.BufRead.{strip_last}
use Rattle.std.proofs.lemmas.Result.{err_from_is_err_and}
use Rattle.xa_output.proofs.Pieces.{appends_both, nothing_appended}
use Rattle.xa_talk.specs.declared.dial.Connection.{Connection}
use Rattle.xa_talk.specs.Talks.{LineTalked, NextRead}
use Rattle.xa_talk.proofs.Reading.{line_more, nothing_consumed, stopped}
use Rattle.xa_talk.proofs.talk.talk_run.Goals as goal

pub loop-index-init : goal.loop-index-init
loop-index-init g c = ([], [], nothing_appended (g.O.Write.contents c.args.output.now), (refl, refl, c.new-connections.ensures))

pub returns-in_err-read_next : goal.returns-in_err-read_next
returns-in_err-read_next g c =
    let p = err_from_is_err_and c.from_residual.result c.from_residual.ensures.1 in
    let before = c.loop-index.invariant in
    let failed = c.in_err-read_next.ensures in
    rw (p.1, p.2) (stopped _ _ _ _ _ _ _ _ _ _ before.0 before.1 before.3 (inl (refl, failed.0, failed.1)) before.2)

pub returns-in_err-talk_line : goal.returns-in_err-talk_line
returns-in_err-talk_line g c =
    let p = err_from_is_err_and c.from_residual-in_err-talk_line.result c.from_residual-in_err-talk_line.ensures.1 in
    let before = c.loop-index.invariant in
    let read = subst (λ (b : Bool). NextRead (Ok b) (g.I.Read.remaining c.loop-index.input) c.read_next.new.line.items (g.I.Read.remaining c.read_next.new.input)) c.if-not-branch.false c.in_ok-read_next.ensures in
    let line : c.without_end.result.now ≡ strip_last 10 c.read_next.new.line.items = c.without_end.ensures ∙ ap (λ (l : List ℕ). strip_last 10 l) c.as_slice.ensures.value in
    let now = c.in_err-talk_line.ensures in
    rw (p.1, p.2) record {
      lines = before.0;
      text = before.1;
      behind = g.I.Read.remaining c.loop-index.input;
      numbered = c.loop-index.connections.numbered.items;
      talked = before.3;
      last = now.0;
      ended = inr (
        c.read_next.new.line.items,
        c.talk_line.new.connections.numbered.items,
        read,
        subst (λ (l : List ℕ). LineTalked {C = Connection g.row.R.Denot g.row.W.Denot} {X = Unit {0}} c.args.manner (λ k. g.W.Write.contents k.writer) (λ k. g.R.Read.remaining k.reader) l (Err c.in_err-talk_line.field-0.0) now.0 c.loop-index.connections.numbered.items c.talk_line.new.connections.numbered.items) line now.2,
      );
      written = appends_both _ _ _ before.1 now.0 before.2 now.1;
    }

pub loop-index-preserved : goal.loop-index-preserved
loop-index-preserved g c =
    let before = c.loop-index.invariant in
    let read = subst (λ (b : Bool). NextRead (Ok b) (g.I.Read.remaining c.loop-index.input) c.read_next.new.line.items (g.I.Read.remaining c.read_next.new.input)) c.if-not-branch.false c.in_ok-read_next.ensures in
    let line : c.without_end.result.now ≡ strip_last 10 c.read_next.new.line.items = c.without_end.ensures ∙ ap (λ (l : List ℕ). strip_last 10 l) c.as_slice.ensures.value in
    let now = c.in_ok-talk_line.ensures in
    let talks = subst (λ (l : List ℕ). LineTalked {C = Connection g.row.R.Denot g.row.W.Denot} {X = Unit {0}} c.args.manner (λ k. g.W.Write.contents k.writer) (λ k. g.R.Read.remaining k.reader) l (Ok tt) now.0 c.loop-index.connections.numbered.items c.talk_line.new.connections.numbered.items) line now.2 in (
      before.0 ++ c.read_next.new.line.items ∷ [],
      before.1 ++ now.0,
      appends_both _ _ _ before.1 now.0 before.2 now.1,
      line_more _ _ _ _ (g.I.Read.remaining c.loop-index.input) (g.I.Read.remaining c.read_next.new.input) [] c.loop-index.connections.numbered.items c.talk_line.new.connections.numbered.items before.0 c.read_next.new.line.items before.1 now.0
          before.3 read talks,
    )

pub returns : goal.returns
returns g c =
    let before = c.loop-index.invariant in
    stopped _ _ _ _ _ _ _ _ _ _ before.0 before.1 before.3 (inl (refl, tt, ([], nothing_consumed (g.I.Read.remaining c.loop-index.input)))) before.2
