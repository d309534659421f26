pub mod Anniversaries
pub mod CalendarLaws
pub mod DatesOfDays
pub mod Months
pub mod Numbers
pub mod ReadTexts
pub mod YearsApart
