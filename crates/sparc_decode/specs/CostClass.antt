-- The class by which an instruction is charged.
use Rattle.sparc_decode.specs.declared.cost_class.CostClass.{CostClass}
use Rattle.sparc_decode.specs.declared.cost_class.CostClass.TheVariants as classes
use Rattle.sparc_decode.specs.declared.instruction.FloatKind.{FloatKind}
use Rattle.sparc_decode.specs.declared.instruction.FloatKind.TheVariants.{Ldf, Ldfsr, Lddf, Stf, Stfsr, Stdf}
use Rattle.sparc_decode.specs.declared.instruction.Instr.{Instr}
use Rattle.sparc_decode.specs.declared.instruction.Instr.TheVariants.{Call, Unimp, Sethi, Branch, FloatBranch, Alu, Tagged, MulStep, Shift, ReadY}
use Rattle.sparc_decode.specs.declared.instruction.Instr.TheVariants.{WriteY, FloatOp, FloatCmp, Jmpl, Flush, Save, Restore, Ticc, Load, Store}
use Rattle.sparc_decode.specs.declared.instruction.Instr.TheVariants.{Atomic, FloatMem, Unmodelled, Unknown, Multiply, Divide}
use Rattle.sparc_decode.specs.declared.instruction.LoadKind.TheVariants.{Ld, Ldub, Lduh, Ldd, Ldsb, Ldsh}
use Rattle.sparc_decode.specs.declared.instruction.StoreKind.TheVariants.{St, Stb, Sth, Std}

-- the class of a floating-point load or store
abbrev pub float_class_of : FloatKind → CostClass
float_class_of Ldf = classes.Floatload
float_class_of Ldfsr = classes.Floatload
float_class_of Lddf = classes.Floatloaddouble
float_class_of Stf = classes.Floatstore
float_class_of Stfsr = classes.Floatstore
float_class_of Stdf = classes.Floatstoredouble

-- the class of an instruction; no instruction is of the class of annulled ones, nor of that of uses behind a load
abbrev pub class_of : Instr → CostClass
class_of (Call disp) = classes.Call
class_of (Unimp imm) = classes.Unmodelled
class_of (Sethi rd imm) = classes.Sethi
class_of (Branch annul cond disp) = classes.Branch
class_of (FloatBranch annul cond disp) = classes.Floatbranch
class_of (Alu op cc rd rs1 second) = classes.Alu
class_of (Tagged op rd rs1 second) = classes.Tagged
class_of (MulStep rd rs1 second) = classes.Mulscc
class_of (Shift op rd rs1 second) = classes.Shift
class_of (ReadY rd) = classes.Ready
class_of (WriteY rs1 second) = classes.Writey
class_of (FloatOp word) = classes.Floatop
class_of (FloatCmp word) = classes.Floatcmp
class_of (Jmpl rd rs1 second) = classes.Jump
class_of (Flush rs1 second) = classes.Flush
class_of (Save rd rs1 second) = classes.Save
class_of (Restore rd rs1 second) = classes.Restore
class_of (Ticc cond rs1 second) = classes.Trap
class_of (Load Ld rd rs1 second) = classes.Load
class_of (Load Ldub rd rs1 second) = classes.Load
class_of (Load Lduh rd rs1 second) = classes.Load
class_of (Load Ldd rd rs1 second) = classes.Loaddouble
class_of (Load Ldsb rd rs1 second) = classes.Load
class_of (Load Ldsh rd rs1 second) = classes.Load
class_of (Store St rd rs1 second) = classes.Store
class_of (Store Stb rd rs1 second) = classes.Store
class_of (Store Sth rd rs1 second) = classes.Store
class_of (Store Std rd rs1 second) = classes.Storedouble
class_of (Atomic swap rd rs1 second) = classes.Atomic
class_of (FloatMem kind rd rs1 second) = float_class_of kind
class_of (Unmodelled word) = classes.Unmodelled
class_of (Unknown word) = classes.Unmodelled
class_of (Multiply cc rd rs1 second) = classes.Multiply
class_of (Divide cc rd rs1 second) = classes.Divide
