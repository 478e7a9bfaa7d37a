use Rattle.bt_image.proofs.LabelLemmas.{each_within, all_within}
use Rattle.bt_image.proofs.labels.labels_in.Goals as goal

pub returns-clause-each : goal.returns-clause-each
returns-clause-each c = each_within c.args.file.now c.args.labels.now _ c.args.low c.args.high c.requires c.between.ensures.each

pub returns-clause-all : goal.returns-clause-all
returns-clause-all c = all_within c.args.file.now c.args.labels.now _ c.args.low c.args.high c.requires c.between.ensures.all
