use Rattle.std.proofs.Common.{◌≡◌, ◌∙◌, ◌&&◌, List, ℕ, Vec, Global, ap, length, subst, sym}
use Rattle.xa_log.specs.Believed.Chain.{Rests, format_in, text}
use Rattle.xa_log.specs.declared.format.Format.{Format}
use Rattle.xa_log.specs.Believed.Damage.{is_snapshot}
use Rattle.xa_log.specs.Believed.LeftOut.{left_out}
use Rattle.xa_log.specs.Reading.{bodies_of}
use Rattle.xa_log.proofs.Records.{format_text}
use Rattle.xa_log.proofs.contents.contents_of.Goals as goal

pub returns : goal.returns
returns c file read same damaged =
    let format : format_in file ≡ c.args.scan.format =
    ap format_in read.rests.split ∙ format_text c.args.scan.format (bodies_of c.args.scan.bodies.items) read.rests.rest in
    record {
      format = sym format;
      bodies = sym same;
      rests = subst (λ (bodies : List (List ℕ)). Rests (format_in file) bodies file) (sym same)
          (subst (λ (named : Format). Rests named (bodies_of c.args.scan.bodies.items) file) (sym format) read.rests);
      end = read.end ∙ (λ i. length (text (sym format i) (sym same i)));
      damaged = damaged;
      cut = c.is_cut_short-cut.ensures ∙ ap (λ (l : List (Vec ℕ Global)). c.args.damaged && is_snapshot (bodies_of l)) c.deref.ensures.value ∙ (λ i. damaged i && is_snapshot (sym same i));
      left = read.left ∙ (λ i. left_out (sym format i) (sym same i) file);
    }
