use Rattle.std.proofs.Common.{◌≡◌, ap, inl, inr}
use Rattle.xa_play.specs.declared.fault.PlayFault.TheVariants.{Memory, Read, TooLong}
use Rattle.xa_play.proofs.Scripts.{if_err, if_ok, reads}
use Rattle.xa_play.proofs.script.read_script.Goals as goal

pub returns-clause-too_long : goal.returns-clause-too_long
returns-clause-too_long g c = λ e.
    let same : c.take.result.inner.now ≡ c.args.reader.now = ap (λ r. r.now) c.take.ensures.inner in
    let read = rw (c.take.ensures.limit, same, c.new-script.ensures.items) at c.read_to_end-read.ensures.bytes in
    elim (reads c.read_to_end-read.result c.script_of.result c.read_to_end-read.new.buf c.read_to_end-read.new.buf.items (g.R.Read.remaining c.args.reader.now) c.script_of.ensures.faults c.script_of.ensures.too_long c.script_of.ensures.whole read) [
      | inl h ↦ cc
      | inr (inl h) ↦ cc
      | inr (inr (inl h)) ↦ h.1
      | inr (inr (inr h)) ↦ let no = h.0 in cc
    ]

pub returns-clause-all : goal.returns-clause-all
returns-clause-all g c =
    let same : c.take.result.inner.now ≡ c.args.reader.now = ap (λ r. r.now) c.take.ensures.inner in
    let read = rw (c.take.ensures.limit, same, c.new-script.ensures.items) at c.read_to_end-read.ensures.bytes in
    elim (reads c.read_to_end-read.result c.script_of.result c.read_to_end-read.new.buf c.read_to_end-read.new.buf.items (g.R.Read.remaining c.args.reader.now) c.script_of.ensures.faults c.script_of.ensures.too_long c.script_of.ensures.whole read) [
      | inl h ↦ if_err c.script_of.result Memory _ h
      | inr (inl h) ↦ if_err c.script_of.result Read _ h
      | inr (inr (inl h)) ↦ if_err c.script_of.result TooLong _ h.0
      | inr (inr (inr h)) ↦ if_ok c.script_of.result c.read_to_end-read.new.buf _ h.0 h.2
    ]
