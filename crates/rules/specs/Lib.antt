-- The documents as definitions, in reading order: Events to Printout are document 01's sections or parts of them, over the words of Words. Of document 02,
-- Week is #107 and Buckets is #104, whose calls are among Events, Loading is #105, History has #102 in it, Events, Run and Sheet have #106, and Pages is
-- #101. OldHistory has the history's rules before #102, and OldReadings the measurement's before #106, each for its comparison alone. From Table on stand
-- statements about the rules: the traps avoided, the laws, those of the busy hours, the promise of service, the two comparisons, the promise in the records
-- of a sheet, and the laws of the pages.
pub mod Words
pub mod Events
pub mod Monitors
pub mod Inputs
pub mod Pll
pub mod Settings
pub mod Week
pub mod Selection
pub mod Buckets
pub mod History
pub mod State
pub mod Tick
pub mod Registers
pub mod Reading
pub mod Refusals
pub mod Run
pub mod Loading
pub mod Sheet
pub mod Printout
pub mod Pages
pub mod OldHistory
pub mod OldReadings
pub mod Table
pub mod Avoided
pub mod Laws
pub mod BusyHours
pub mod Preference
pub mod Service
pub mod Comparison
pub mod FinerReadings
pub mod Records
pub mod PageLaws
