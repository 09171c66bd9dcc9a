-- `unfolding computing` opens every definition of the rules, so that histories and sheets run by computation. The names stand here and nowhere else.
use Prim.Native.Nat.{ℕ}
use Rattle.rules.specs.Words
use Rattle.rules.specs.Monitors
use Rattle.rules.specs.Pll
use Rattle.rules.specs.Settings
use Rattle.rules.specs.Week
use Rattle.rules.specs.Inputs
use Rattle.rules.specs.Selection
use Rattle.rules.specs.Buckets
use Rattle.rules.specs.History
use Rattle.rules.specs.Tick
use Rattle.rules.specs.Registers
use Rattle.rules.specs.Reading
use Rattle.rules.specs.Refusals
use Rattle.rules.specs.Run
use Rattle.rules.specs.Loading
use Rattle.rules.specs.Sheet
use Rattle.rules.specs.Printout
use Rattle.rules.specs.Pages
use Rattle.rules.specs.Service
use Rattle.rules.specs.OldHistory

-- Its value means nothing; what counts is the list under it.
unfoldable pub computing : ℕ
unfolding
    Words.bit
    Monitors.level_after Monitors.decay_after Monitors.alarm_after Monitors.activity_after Monitors.good Monitors.soak_after
    Monitors.monitored Monitors.qualified Monitors.unsoaked Monitors.at_size Monitors.lock_alarmed Monitors.frequency_after Monitors.measured Monitors.fresh_input
    Pll.mode_number Pll.unlocked Pll.looped Pll.alarm_due
    Settings.priority Settings.revertive Settings.usable Settings.ahead Settings.delay_ticks
    Week.fresh_week Week.in_window Week.busy Week.advanced Week.longest Week.is_window Week.ascending Week.starts_week Week.last_end Week.ends_week Week.windows_fit
    Week.windows_from
    Inputs.altered Inputs.each_from
    Selection.available Selection.candidate Selection.best_up_to Selection.best Selection.settled
    Selection.wait_after Selection.switches Selection.reverted Selection.reselected Selection.manual Selection.chosen Selection.unselected_mode Selection.unselected_loop
    Selection.mode_after Selection.steered
    Buckets.bucket_from Buckets.in_bounds Buckets.start_bucket Buckets.fresh_buckets Buckets.with_set Buckets.with_assigned Buckets.put_at_size
    History.ready History.held History.with_blocks History.open_emptied History.saturated History.filling History.completed History.sampled
    History.starts_building History.with_last History.noted History.recorded History.sum_of History.value History.backed_up History.replaced
    History.with_command History.commanded History.fresh_history
    Tick.watched Tick.watched_after Tick.loop_after Tick.inputs_after Tick.holding_after Tick.week_after Tick.steps1to4 Tick.step5 Tick.ticked
    Registers.registers Registers.slot Registers.in_map Registers.register Registers.read_only Registers.largest Registers.stored Registers.written
    Registers.settings_from Registers.fresh_with Registers.fresh_table Registers.fresh
    Reading.mask_up_to Reading.count_up_to Reading.qualified_mask Reading.available_mask Reading.available_count Reading.hours Reading.state_byte
    Reading.status_byte Reading.twos Reading.value_byte Reading.shown Reading.content Reading.read
    Refusals.limits_apart Refusals.limits_refused Refusals.command_refused Refusals.write_refusal Refusals.set_refusal Refusals.assign_refusal Refusals.week_refusal Refusals.windows_refusal Refusals.refusal
    Run.after_measurement Run.after_hit Run.after_write Run.after_set Run.after_assign Run.effect Run.next Run.outcome Run.run
    Loading.most Loading.fits Loading.loads Loading.load_refusal Loading.fresh_from Loading.loading
    Sheet.signed Sheet.tick_of Sheet.measurement_of Sheet.hit_of Sheet.write_of Sheet.finer_of Sheet.fields Sheet.decode Sheet.settings_count Sheet.events_at
    Sheet.events_count Sheet.sheet_end Sheet.settings_of Sheet.before Sheet.events_of Sheet.sheet_events Sheet.is_event Sheet.all_events Sheet.record_count
    Sheet.check Sheet.record_of Sheet.records Sheet.front Sheet.output_after
    Printout.digit Printout.decimal_in Printout.decimal Printout.hexadecimal Printout.records_word Printout.refused_word Printout.head_line
    Printout.record_line Printout.record_lines Printout.printed
    Pages.left_in Pages.right_in Pages.state_name Pages.record_columns Pages.page_count Pages.page_line Pages.joined Pages.page Pages.pages_of
    Pages.print_check Pages.print
    Service.accepted_ticks
    OldHistory.old_blocks OldHistory.old_sampled OldHistory.old_noted OldHistory.old_recorded OldHistory.old_commanded OldHistory.old_effect
    OldHistory.old_next OldHistory.old_run
computing = 0
