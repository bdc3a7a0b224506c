use Rattle.xa_fields.proofs.Fields.{short, key, value, direction, name}
use Rattle.xa_fields.proofs.laws.one_field.Goals as goal

pub returns-clause-short : goal.returns-clause-short
returns-clause-short c = short

pub returns-clause-key : goal.returns-clause-key
returns-clause-key c = key

pub returns-clause-value : goal.returns-clause-value
returns-clause-value c = value

pub returns-clause-direction : goal.returns-clause-direction
returns-clause-direction c = direction

pub returns-clause-name : goal.returns-clause-name
returns-clause-name c = name
