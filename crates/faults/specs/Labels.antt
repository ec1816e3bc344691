-- Why a label is not valid: the first of its parts that is wrong. Document 01, "Valid: a real date and time; IV, TIS, ETI, PTI and reserved
-- bits 0", part by part over the bits that `label`'s definition judges. Assumes nothing.
use Rattle.std.specs.Prelude.{not, ◌&&◌, List, [], leb, eqb, Option, Some, None}
use Rattle.octets.specs.Bits.{bits◌to◌of◌}
use Rattle.octets.specs.First.{When, ◌⇒◌▸◌, first_of◌else◌}
use Rattle.label.specs.declared.DateTime.{DateTime}
use Rattle.label.specs.declared.LabelA.{LabelA}
use Rattle.label.specs.declared.LabelB.{LabelB}
use Rattle.label.specs.Calendar.{leap, month_length}
use Rattle.label.specs.Label.{date_time_a, second, millisecond}
use Rattle.faults.specs.declared.LabelFault.{LabelFault}
use Rattle.faults.specs.declared.LabelFault.TheVariants.{Iv, Tis, HourReserved, EtiPti, YearReserved, Year, Month, Day, Hour, Minute, Second, Millisecond}

-- IV; TIS; the reserved bits of the hour's octet; ETI or PTI; the reserved bit of the year's octet
abbrev pub flag_faults : LabelA → List (When (Option LabelFault))
flag_faults l =
    not (eqb (bits 8 to 8 of l.minute) 0) ⇒ Some Iv ▸
    not (eqb (bits 7 to 7 of l.minute) 0) ⇒ Some Tis ▸
    not (eqb (bits 6 to 7 of l.hour) 0) ⇒ Some HourReserved ▸
    not (eqb (bits 5 to 8 of l.month) 0) ⇒ Some EtiPti ▸
    not (eqb (bits 8 to 8 of l.year) 0) ⇒ Some YearReserved ▸
    []

-- year, month, day, hour, minute of no real date and time
abbrev pub time_faults : DateTime → List (When (Option LabelFault))
time_faults t =
    not (leb t.year 99) ⇒ Some Year ▸
    not (leb 1 t.month && leb t.month 12) ⇒ Some Month ▸
    not (leb 1 t.day && leb t.day (month_length (leap t.year) t.month)) ⇒ Some Day ▸
    not (leb t.hour 23) ⇒ Some Hour ▸
    not (leb t.minute 59) ⇒ Some Minute ▸
    []

unfoldable pub time_fault : DateTime → Option LabelFault
time_fault t = first_of time_faults t else None

unfoldable pub label_fault_a : LabelA → Option LabelFault
label_fault_a l = first_of flag_faults l else time_fault (date_time_a l)

-- of a label b second and millisecond, then its label a
abbrev pub clock_faults : LabelB → List (When (Option LabelFault))
clock_faults l =
    not (leb (second l) 59) ⇒ Some Second ▸
    not (leb (millisecond l) 999) ⇒ Some Millisecond ▸
    []

unfoldable pub label_fault_b : LabelB → Option LabelFault
label_fault_b l = first_of clock_faults l else label_fault_a l.a
