use Rattle.std.proofs.Common.{◌≡◌, List, ℕ, length, subst, ap, ◌∙◌}
use Rattle.xa_disk.specs.Disk.{put, Torn}
use Rattle.xa_disk.specs.Time.{TimePasses}
use Rattle.xa_disk.specs.Images.{torn_same}
use Rattle.xa_log.specs.Believed.Chain.{preamble}
use Rattle.xa_log.specs.Answers.{FailedPut}
use Rattle.xa_log.proofs.Header.{length-preamble, put_header}
use Rattle.xa_log.proofs.Known.{put_grows}
use Rattle.xa_log.proofs.Ready.{map_ok, map_err, leaves_by, fell_calm, other_torn, front_leaves}
use Rattle.xa_log.proofs.checkpointing.put_front.Goals as goal

pub returns-clause-made : goal.returns-clause-made
returns-clause-made g c h =
    let bytes : c.as_slice.result.now ≡ preamble c.args.format = c.as_slice.ensures ∙ c.preamble.ensures in
    map_ok _ _ c.put_synced.result
    (λ is. is ∙ ap (λ (l : List ℕ). put (g.D.Disk.seen c.args.disk.now) 0 l) bytes ∙ put_header c.args.format (g.D.Disk.seen c.args.disk.now))
    (c.put_synced.ensures.written h)

pub returns-clause-stays : goal.returns-clause-stays
returns-clause-stays g c h most stood room other =
    let n : length c.as_slice.result.now ≡ 12 =
    ap (λ (l : List ℕ). length l) (c.as_slice.ensures ∙ c.preamble.ensures) ∙ length-preamble c.args.format in
    map_err _ _ c.put_synced.result
    (λ torn. other_torn g.D.Disk most stood c.args.disk.now c.put_synced.new.disk room other
    (subst (λ k. Torn 0 k (g.D.Disk.seen c.args.disk.now) (g.D.Disk.seen c.put_synced.new.disk)) n torn)
    (λ x left. let y = (c.put_synced.ensures.time h).follows x left in (y.0, y.1, subst (λ k. Torn 0 k y.0 x) n y.2)))
    (c.put_synced.ensures.failed h)

pub returns-clause-calm : goal.returns-clause-calm
returns-clause-calm g c h lucky stood calm =
    map_err _ _ c.put_synced.result
    (λ fell. fell_calm g.D.Disk.tears c.args.format stood (g.D.Disk.seen c.args.disk.now) (g.D.Disk.seen c.put_synced.new.disk) lucky calm
    (subst (λ bytes. FailedPut g.D.Disk.tears (g.D.Disk.seen c.args.disk.now) 0 bytes (g.D.Disk.seen c.put_synced.new.disk)) (c.as_slice.ensures ∙ c.preamble.ensures) fell))
    (c.put_synced.ensures.fell h)

pub returns-clause-any_moment : goal.returns-clause-any_moment
returns-clause-any_moment g c h most stood room other =
    let old = c.args.disk.now in
    let new = c.put_synced.new.disk in
    let n : length c.as_slice.result.now ≡ 12 =
    ap (λ (l : List ℕ). length l) (c.as_slice.ensures ∙ c.preamble.ensures) ∙ length-preamble c.args.format in
    leaves_by g.D.Disk old new (Torn 0 12) _ (g.met.D.Disk.only_now old) (torn_same 0 12)
    (front_leaves g.D.Disk most stood old room other)
    (subst (λ k. TimePasses g.D.Disk (Torn 0 k) old new) n
    (c.put_synced.ensures.time h))

pub returns-clause-grows : goal.returns-clause-grows
returns-clause-grows g c h = put_grows c.put_synced.result _ _ _ _ _ (c.put_synced.ensures.written h) (c.put_synced.ensures.failed h)

pub returns-clause-time : goal.returns-clause-time
returns-clause-time g c h =
    let n : length c.as_slice.result.now ≡ 12 =
    ap (λ (l : List ℕ). length l) (c.as_slice.ensures ∙ c.preamble.ensures) ∙ length-preamble c.args.format in
    subst (λ k. TimePasses g.D.Disk (Torn 0 k) c.args.disk.now c.put_synced.new.disk) n (c.put_synced.ensures.time h)
