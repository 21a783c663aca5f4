use Rattle.curve.specs.declared.CurveReading.TheVariants.{Below, On, Above}
use Rattle.curve.proofs.Readings.{says}
use Rattle.curve.proofs.power_at.Goals as goal

pub returns-in-Below : goal.returns-in-Below
returns-in-Below c = says _ _ _ Below c.in-Below.ensures c.requires

pub returns-in-On : goal.returns-in-On
returns-in-On c = says _ _ _ (On c.in-On.power) c.in-On.ensures c.requires

pub returns-in-Above : goal.returns-in-Above
returns-in-Above c = says _ _ _ Above c.in-Above.ensures c.requires
