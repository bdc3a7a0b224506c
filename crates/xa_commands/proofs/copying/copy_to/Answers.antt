use Rattle.xa_commands.proofs.copying.copy_to.Goals as goal

pub returns-in-Ok-copy_log : goal.returns-in-Ok-copy_log
returns-in-Ok-copy_log g c = record {
  empty = c.in-Ok.disk;
  empty_second = c.in-Ok-open_disk.disk;
  made = c.in-Ok.ensures.opened;
  made_second = c.in-Ok-open_disk.ensures.opened;
  copy = c.copy_log.new.to;
  second_copy = c.copy_log.new.to_second;
  copied = c.in-Ok-copy_log.copied;
  copies = c.in-Ok-copy_log.ensures.copies;
  durable = c.in-Ok-copy_log.ensures.durable;
  durable_second = c.in-Ok-copy_log.ensures.durable_second;
}
